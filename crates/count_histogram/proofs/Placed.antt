-- Rows in order: each is ahead of all behind it, and the rows that are there say which list it is.
use Rattle.std.proofs.Common.{arith, ◌≡◌, refl, sym, ap, ◌∙◌, Bool, true, false, cond, not, ◌||◌, List, [], ◌∷◌, IsSorted, get_or}
use Rattle.std.specs.Ordering.{is_lt, is_eq, eq_by_cmp, ordering_reverse}
use Rattle.std.specs.declared.cmp.Ordering.{Ordering}
use Rattle.std.specs.declared.cmp.Ordering.TheVariants.{Less, Equal, Greater}
use Rattle.std.specs.Cmp.{IsStrictWeakOrder}
use Rattle.std.specs.List.{list_any, AllByRecursion, IsDistinct}
use Rattle.std.specs.List.Sorted.{IsStrictlySortedBy}
use Rattle.std.proofs.lemmas.Bool.{or_parts}
use Rattle.std.proofs.lemmas.Map.Lookups.{btree_set_from_contains}
use Rattle.std.proofs.lemmas.Map.Keys.{IsDistinct-from_apart, apart_from_distinct}
use Rattle.std.proofs.lemmas.List.Sorted.{sorted_far, ranks_by}
use Rattle.count_histogram.specs.declared.row.Row.{Row}
use Rattle.count_histogram.specs.Histogram.{is_ahead, placed, in_order}
use Rattle.count_histogram.proofs.Ahead.{order, total, exact, ahead}

-- ---- one row in its place

any_swaps : (a b c : Bool) → (a || (b || c)) ≡ (b || (a || c))
any_swaps true true c = refl
any_swaps true false c = refl
any_swaps false b c = refl

has_either : (test : Row → Bool) (row first : Row) (rows rest : List Row) (b : Bool) → list_any test rest ≡ (test row || list_any test rows)
    → list_any test (cond b (row ∷ first ∷ rows) (first ∷ rest)) ≡ (test row || (test first || list_any test rows))
has_either test row first rows rest true e = refl
has_either test row first rows rest false e = ap (λ b. test first || b) e ∙ any_swaps (test first) (test row) (list_any test rows)

has_placed : (test : Row → Bool) (row : Row) (rows : List Row) → list_any test (placed row rows) ≡ (test row || list_any test rows)
has_placed test row [] = refl
has_placed test row (first ∷ rows) = has_either test row first rows (placed row rows) (is_ahead row first) (has_placed test row rows)

pub has_in_order : (test : Row → Bool) (rows : List Row) → list_any test (in_order rows) ≡ list_any test rows
has_in_order test [] = refl
has_in_order test (row ∷ rows) = has_placed test row (in_order rows) ∙ ap (λ b. test row || b) (has_in_order test rows)

all_either : (P : Row → Type 0) (row first : Row) (rows rest : List Row) (b : Bool) → P row → AllByRecursion P (first ∷ rows) → AllByRecursion P rest → AllByRecursion P (cond b (row ∷ first ∷ rows) (first ∷ rest))
all_either P row first rows rest true p h r = (p, h)
all_either P row first rows rest false p h r = (h.0, r)

all_placed : (P : Row → Type 0) (row : Row) (rows : List Row) → P row → AllByRecursion P rows → AllByRecursion P (placed row rows)
all_placed P row [] p h = (p, tt)
all_placed P row (first ∷ rows) p h = all_either P row first rows (placed row rows) (is_ahead row first) p h (all_placed P row rows p h.1)

-- ---- rows that don't tie, in order

less : (o : Ordering) → is_lt o ≡ true → o ≡ Less
less Less e = refl
less Equal e = absurd (cc)
less Greater e = absurd (cc)

turned : (o : Ordering) → is_lt o ≡ false → is_eq o ≡ false → ordering_reverse o ≡ Less
turned Less nl ne = absurd (cc)
turned Equal nl ne = absurd (cc)
turned Greater nl ne = refl

-- what is behind a row is behind one ahead of it
behind : (a b : Row) (rows : List Row) → order a b ≡ Less → AllByRecursion (λ r. order b r ≡ Less) rows → AllByRecursion (λ r. order a r ≡ Less) rows
behind a b [] e h = tt
behind a b (r ∷ rows) e h = (total.trans a b r e h.0, behind a b rows e h.1)

sorted_either : (row first : Row) (rows rest : List Row) (b : Bool) → is_lt (order row first) ≡ b → eq_by_cmp order row first ≡ false
    → (order first row ≡ Less → AllByRecursion (λ r. order first r ≡ Less) rest) → IsStrictlySortedBy order (first ∷ rows) → IsStrictlySortedBy order rest
    → IsStrictlySortedBy order (cond b (row ∷ first ∷ rows) (first ∷ rest))
unfolding IsStrictlySortedBy
sorted_either row first rows rest true is apart h s r = let e = less (order row first) is in ((e, behind row first rows e s.0), s)
sorted_either row first rows rest false is apart h s r = (h (total.antisymm first row ∙ turned (order row first) is apart), r)

sorted_placed : (row : Row) (rows : List Row) → list_any (eq_by_cmp order row) rows ≡ false → IsStrictlySortedBy order rows → IsStrictlySortedBy order (placed row rows)
unfolding IsStrictlySortedBy
sorted_placed row [] apart s = (tt, tt)
sorted_placed row (first ∷ rows) apart s =
    let parts = or_parts (eq_by_cmp order row first) (list_any (eq_by_cmp order row) rows) apart in
    sorted_either row first rows (placed row rows) (is_ahead row first) (sym (ahead row first)) parts.0
    (λ e. all_placed (λ r. order first r ≡ Less) row rows e s.0) s (sorted_placed row rows parts.1 s.1)

none : (row : Row) (rows : List Row) → AllByRecursion (λ r. eq_by_cmp order row r ≡ false) rows → list_any (eq_by_cmp order row) rows ≡ false
none row [] h = refl
none row (r ∷ rows) h = rw h.0 (none row rows h.1)

pub sorted_in_order : (rows : List Row) → IsDistinct (eq_by_cmp order) rows → IsStrictlySortedBy order (in_order rows)
unfolding IsDistinct IsStrictlySortedBy
sorted_in_order [] h = tt
sorted_in_order (row ∷ rows) h = sorted_placed row (in_order rows) (has_in_order (eq_by_cmp order row) rows ∙ none row rows h.0) (sorted_in_order rows h.1)

-- ---- rows that a sort left

pub is_order : IsStrictWeakOrder (λ x y. is_lt (order x y))
is_order = ranks_by total (λ (row : Row). row)

settled : (o p : Ordering) → p ≡ ordering_reverse o → is_lt o ≡ false → is_eq p ≡ false → p ≡ Less
settled Less p e nl ne = absurd (cc)
settled Equal p e nl ne = absurd (let h : is_eq p ≡ true = ap is_eq e in cc)
settled Greater p e nl ne = e

abbrev not_below : Row → Row → Bool
not_below a b = not (is_lt (order a b))

below : (o : Ordering) → not (is_lt o) ≡ false → o ≡ Less
below Less e = refl
below Equal e = absurd (cc)
below Greater e = absurd (cc)

behind_all : (row : Row) (rows : List Row) → AllByRecursion (λ r. not_below row r ≡ false) rows → AllByRecursion (λ r. order row r ≡ Less) rows
behind_all row [] h = tt
behind_all row (r ∷ rows) h = (below (order row r) h.0, behind_all row rows h.1)

from_pairs : (rows : List Row) → IsDistinct not_below rows → IsStrictlySortedBy order rows
unfolding IsDistinct IsStrictlySortedBy
from_pairs [] h = tt
from_pairs (row ∷ rows) h = (behind_all row rows h.0, from_pairs rows h.1)

pub sorted_by_sort : (rows : List Row) → IsSorted order rows → IsDistinct (eq_by_cmp order) rows → IsStrictlySortedBy order rows
sorted_by_sort rows s h = from_pairs rows (IsDistinct-from_apart not_below rows (λ i j d lt within.
    let far = sorted_far (λ x y. is_lt (order x y)) is_order rows s i j d (omega arith) within in
    let apart = apart_from_distinct (eq_by_cmp order) rows i j d h lt within in
    let a = get_or rows i d in
    let b = get_or rows j d in
    ap (λ o. not (is_lt o)) (settled (order b a) (order a b) (total.antisymm a b) far apart)))

-- ---- the list that it is

pub same : (xs ys : List Row) → IsStrictlySortedBy order xs → IsStrictlySortedBy order ys → ((row : Row) → list_any (eq_by_cmp order row) xs ≡ list_any (eq_by_cmp order row) ys) → xs ≡ ys
same xs ys sx sy h = btree_set_from_contains total (record { keys = xs }) (record { keys = ys }) sx sy h exact
