-- A row for each item of a list: the items of a list, each once, with the number of its copies.
use Rattle.std.proofs.Common.{arith, ◌≡◌, refl, sym, ap, subst, ◌∙◌, ℕ, ◌+◌, ◌<◌, Bool, true, false, cond, ◌||◌, List, [], ◌∷◌, bytes_eq, count_by, map}
use Rattle.std.specs.Ordering.{eq_by_cmp}
use Rattle.std.specs.Cmp.Lexicographic.{bytes_decides, nat_list_eq_equiv}
use Rattle.std.specs.List.{list_any, AllByRecursion, IsDistinct}
use Rattle.std.specs.List.Sorted.{IsPermutation, IsSorted}
use Rattle.std.proofs.lemmas.Bool.{cases_Bool, or_parts}
use Rattle.std.proofs.lemmas.Cmp.{eq_by_cmp_equiv}
use Rattle.std.proofs.lemmas.List.Elements.{All-from_recursion, recursion_from_All, All-weaker}
use Rattle.std.proofs.lemmas.List.Sorted.{list_any-IsPermutation}
use Rattle.std.proofs.lemmas.List.Sums.{sum_by-cons}
use Rattle.std.proofs.lemmas.Map.Made.{All-is_member}
use Rattle.std.proofs.lemmas.Map.Keys.{IsDistinct-IsPermutation}
use Rattle.count_histogram.specs.declared.row.Row.{Row}
use Rattle.count_histogram.specs.Counts.{count_in, AreCounts, IsTally}
use Rattle.count_histogram.specs.Histogram.{distinct, in_order, rows_of}
use Rattle.count_histogram.proofs.Ahead.{order, total}
use Rattle.count_histogram.proofs.Placed.{has_in_order, sorted_in_order, sorted_by_sort, same}
use Rattle.count_histogram.proofs.Tally.{agree, untied}
use mathlib.Core.Logic.{⊎_elim}

-- ---- counts

count_cons : (test : List ℕ → Bool) (item : List ℕ) (items : List (List ℕ)) → count_by test (item ∷ items) ≡ cond (test item) 1 0 + count_by test items
count_cons test item items = sum_by-cons (λ x. cond (test x) 1 0) item items

-- what is there counts at least one, and what is not counts none
some : (test : List ℕ → Bool) (items : List (List ℕ)) → list_any test items ≡ true → 0 < count_by test items
some test [] e = absurd (cc)
some test (item ∷ items) e =
    let head = count_cons test item items in
    ⊎_elim
    (λ y. let one : cond {A = ℕ} (test item) 1 0 ≡ 1 = rw y refl in omega arith)
    (λ n. let rest : 0 < count_by test items = some test items (rw n at e) in omega arith)
    (cases_Bool (test item))

zero_of : (test : List ℕ → Bool) (items : List (List ℕ)) → list_any test items ≡ false → count_by test items ≡ 0
zero_of test [] e = refl
zero_of test (item ∷ items) e =
    let parts = or_parts (test item) (list_any test items) e in
    let head = count_cons test item items in
    let one : cond {A = ℕ} (test item) 1 0 ≡ 0 = rw parts.0 refl in
    let rest = zero_of test items parts.1 in
    omega arith

-- ---- each item once

taken : (P : List ℕ → Type 0) (b : Bool) (item : List ℕ) (rest : List (List ℕ)) → P item → AllByRecursion P rest → AllByRecursion P (cond b rest (item ∷ rest))
taken P true item rest p h = h
taken P false item rest p h = (p, h)

all_distinct : (P : List ℕ → Type 0) (items : List (List ℕ)) → AllByRecursion P items → AllByRecursion P (distinct items)
all_distinct P [] h = tt
all_distinct P (item ∷ items) h = taken P (list_any (bytes_eq item) items) item (distinct items) h.0 (all_distinct P items h.1)

differ : (item : List ℕ) (items : List (List ℕ)) → list_any (bytes_eq item) items ≡ false → AllByRecursion (λ other. bytes_eq item other ≡ false) items
differ item [] e = tt
differ item (other ∷ items) e = let parts = or_parts (bytes_eq item other) (list_any (bytes_eq item) items) e in (parts.0, differ item items parts.1)

once_more : (b : Bool) (item : List ℕ) (rest : List (List ℕ)) → (b ≡ false → AllByRecursion (λ other. bytes_eq item other ≡ false) rest) → IsDistinct bytes_eq rest → IsDistinct bytes_eq (cond b rest (item ∷ rest))
unfolding IsDistinct
once_more true item rest apart h = h
once_more false item rest apart h = (apart refl, h)

once : (items : List (List ℕ)) → IsDistinct bytes_eq (distinct items)
unfolding IsDistinct
once [] = tt
once (item ∷ items) = once_more (list_any (bytes_eq item) items) item (distinct items) (λ e. all_distinct (λ other. bytes_eq item other ≡ false) items (differ item items e)) (once items)

-- a list and its items once each have the same items
kept_once : (q item : List ℕ) (items rest : List (List ℕ)) (b : Bool) → list_any (bytes_eq item) items ≡ b → list_any (bytes_eq q) rest ≡ list_any (bytes_eq q) items
    → list_any (bytes_eq q) (cond b rest (item ∷ rest)) ≡ (bytes_eq q item || list_any (bytes_eq q) items)
kept_once q item items rest false e h = ap (λ b. bytes_eq q item || b) h
kept_once q item items rest true e h =
    ⊎_elim
    (λ y. let is : q ≡ item = (bytes_decides q item).0 y in
    let any : list_any (bytes_eq q) items ≡ true = rw is e in
    rw y (h ∙ any))
    (λ n. rw n h)
    (cases_Bool (bytes_eq q item))

has : (q : List ℕ) (items : List (List ℕ)) → list_any (bytes_eq q) (distinct items) ≡ list_any (bytes_eq q) items
has q [] = refl
has q (item ∷ items) = kept_once q item items (distinct items) (list_any (bytes_eq item) items) refl (has q items)

-- ---- a row for each item

module _ (count : List ℕ → ℕ) where
  abbrev row_for : List ℕ → Row
  row_for item = record { count = count item; item = item }

  items_back : (items : List (List ℕ)) → map (λ (row : Row). row.item) (map row_for items) ≡ items
  items_back [] = refl
  items_back (item ∷ items) = ap (λ rest. item ∷ rest) (items_back items)

  counts_rows : (q : List ℕ) (items : List (List ℕ)) → count_in (map row_for items) q ≡ cond (list_any (bytes_eq q) items) (count q) 0
  counts_rows q [] = refl
  counts_rows q (item ∷ items) =
      ⊎_elim
      (λ y. let is : q ≡ item = (bytes_decides q item).0 y in rw y (ap count (sym is)))
      (λ n. rw n (counts_rows q items))
      (cases_Bool (bytes_eq q item))

  positive : (items : List (List ℕ)) → AllByRecursion (λ item. 0 < count item) items → AllByRecursion (λ (row : Row). 0 < row.count) (map row_for items)
  positive [] h = tt
  positive (item ∷ items) h = (h.0, positive items h.1)

abbrev copies : List (List ℕ) → List ℕ → ℕ
copies items item = count_by (bytes_eq item) items

abbrev counted : List (List ℕ) → List Row
counted items = map (row_for (copies items)) (distinct items)

tally_of : (items : List (List ℕ)) → IsTally (counted items)
tally_of items = record {
  once = subst (λ (l : List (List ℕ)). IsDistinct bytes_eq l) (sym (items_back (copies items) (distinct items))) (once items);
  added = All-from_recursion (λ (row : Row). 0 < row.count) (counted items) (positive (copies items) (distinct items)
      (all_distinct (λ item. 0 < copies items item) items (recursion_from_All (λ item. 0 < copies items item) items
      (All-weaker (λ item. list_any (bytes_eq item) items ≡ true) (λ item. 0 < copies items item) (λ item. some (bytes_eq item) items) items (All-is_member nat_list_eq_equiv items)))));
}

picked : (b : Bool) (n : ℕ) → (b ≡ false → n ≡ 0) → cond b n 0 ≡ n
picked true n h = refl
picked false n h = sym (h refl)

counts_of : (items : List (List ℕ)) → AreCounts (counted items) items
counts_of items q = counts_rows (copies items) q (distinct items)
    ∙ picked (list_any (bytes_eq q) (distinct items)) (copies items q) (λ e. zero_of (bytes_eq q) items (sym (has q items) ∙ e))

-- ---- what a sort of the rows gives

flips : (a b : Row) → eq_by_cmp order a b ≡ eq_by_cmp order b a
flips a b = (eq_by_cmp_equiv total).symm a b

pub sorted_rows : (rows sorted : List Row) → IsTally rows → IsPermutation rows sorted → IsSorted order sorted → (items : List (List ℕ)) → AreCounts rows items → sorted ≡ rows_of items
unfolding rows_of
sorted_rows rows sorted tally moved up items counts =
    let mine = tally_of items in
    same sorted (in_order (counted items))
    (sorted_by_sort sorted up (IsDistinct-IsPermutation (eq_by_cmp order) flips rows sorted moved (untied rows tally.once)))
    (sorted_in_order (counted items) (untied (counted items) mine.once))
    (λ row. sym (list_any-IsPermutation (eq_by_cmp order row) rows sorted moved)
    ∙ agree rows (counted items) tally mine (λ item. counts item ∙ sym (counts_of items item)) row
    ∙ sym (has_in_order (eq_by_cmp order row) (counted items)))
