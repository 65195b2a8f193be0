-- The order of rows: the larger count is ahead, then the smaller bytes.
use Rattle.std.proofs.Common.{arith, ◌≡◌, refl, sym, ap, ◌∙◌, ℕ, Bool, true, false, cond, ◌&&◌, ◌||◌, ◌==◌, nat_lt, bytes_eq}
use Rattle.std.specs.Ordering.{nat_cmp, ordering_then, is_lt, is_eq, eq_by_cmp}
use Rattle.std.specs.declared.cmp.Ordering.{Ordering}
use Rattle.std.specs.declared.cmp.Ordering.TheVariants.{Less, Equal, Greater}
use Rattle.std.specs.Cmp.{IsTotalOrder}
use Rattle.std.specs.Cmp.Lexicographic.{slice_cmp}
use Rattle.std.proofs.lemmas.Cmp.{nat_cmp_total, nat_list_cmp_total, on_total, then_total, back_total}
use Rattle.std.proofs.lemmas.Map.Lookups.{exact_bytes, exact_unsigned}
use Rattle.std.proofs.lemmas.Map.Text.{is_eq-slice_cmp}
use Rattle.count_histogram.specs.declared.row.Row.{Row}
use Rattle.count_histogram.specs.Histogram.{is_ahead}

abbrev pub order : Row → Row → Ordering
order a b = ordering_then (nat_cmp b.count a.count) (slice_cmp nat_cmp a.item b.item)

pub total : IsTotalOrder order
total = then_total (back_total (on_total (λ (r : Row). r.count) nat_cmp_total)) (on_total (λ (r : Row). r.item) nat_list_cmp_total)

same_row : (a b : Row) → b.count ≡ a.count → a.item ≡ b.item → a ≡ b
same_row a b c i = λ k. record { count = (sym c) k; item = i k }

both_equal : (o s : Ordering) → ordering_then o s ≡ Equal → (o ≡ Equal) × (s ≡ Equal)
both_equal Less s e = absurd (cc)
both_equal Equal s e = (refl, e)
both_equal Greater s e = absurd (cc)

pub exact : (a b : Row) → order a b ≡ Equal → a ≡ b
exact a b e =
    let parts = both_equal (nat_cmp b.count a.count) (slice_cmp nat_cmp a.item b.item) e in
    same_row a b (exact_unsigned b.count a.count parts.0) (exact_bytes a.item b.item parts.1)

by_tests : (p q : Bool) (s : Ordering) → (p || (q && is_lt s)) ≡ is_lt (ordering_then (cond p Less (cond q Equal Greater)) s)
by_tests true q s = refl
by_tests false true s = refl
by_tests false false s = refl

flipped : (m n : ℕ) → (m == n) ≡ (n == m)
flipped m n = grind arith

pub ahead : (a b : Row) → is_ahead a b ≡ is_lt (order a b)
ahead a b = ap (λ q. nat_lt b.count a.count || (q && is_lt (slice_cmp nat_cmp a.item b.item))) (flipped a.count b.count)
    ∙ by_tests (nat_lt b.count a.count) (b.count == a.count) (slice_cmp nat_cmp a.item b.item)

tied_tests : (p q : Bool) (s : Ordering) (b : Bool) → is_eq s ≡ b → (p ≡ true → q ≡ false) → is_eq (ordering_then (cond p Less (cond q Equal Greater)) s) ≡ (q && b)
tied_tests true true s b e apart = absurd (let h = apart refl in cc)
tied_tests true false s b e apart = refl
tied_tests false true s b e apart = e
tied_tests false false s b e apart = refl

below_differ : (m n : ℕ) → nat_lt m n ≡ true → (m == n) ≡ false
below_differ m n e = grind arith

-- rows tie where both parts are equal
pub ties : (a b : Row) → eq_by_cmp order a b ≡ ((b.count == a.count) && bytes_eq a.item b.item)
ties a b = tied_tests (nat_lt b.count a.count) (b.count == a.count) (slice_cmp nat_cmp a.item b.item) (bytes_eq a.item b.item) (is_eq-slice_cmp a.item b.item) (below_differ b.count a.count)
