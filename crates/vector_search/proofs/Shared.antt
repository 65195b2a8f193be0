-- Where masks that stand a row apart share a bit no row stands.
use Rattle.std.proofs.Common.{◌≡◌, ◌∙◌, ℕ, ◌+◌, ◌^◌, ◌<◌, Bool, true, false, cond, not, map, get_or, bit_and, refl, sym, ap, subst, inl, inr, arith, IsTrue, nat_eq, w64}
use Rattle.std.specs.Int.{bit_at, trailing_zeros}
use Rattle.std.specs.List.{range_with_len}
use Rattle.std.proofs.lemmas.Bool.{cases_lt, true≢false}
use Rattle.std.proofs.lemmas.List.{get_or_past, get_or-map}
use Rattle.std.proofs.lemmas.List.FromFn.{length-map-range_with_len, length-range_with_len, get_or-range_with_len}
use Rattle.std.proofs.lemmas.Nat.{and_le_l}
use Rattle.std.proofs.lemmas.Nat.Bits.{bit_at_and, bit_at-lt, bit_at-trailing_zeros}
use Rattle.std.proofs.lemmas.Simd.{bit_mask_l, mask_l-lt}
use lib.Lanes.{mask_l}
use Rattle.vector_search.specs.Places.{mask_of}
use Rattle.vector_search.specs.Rows.{NoRowIn}
use Rattle.vector_search.proofs.Broken.{other, barred, no_row_further}

set : (b : Bool) (bit : ℕ) → bit ≡ cond b 1 0 → bit ≡ 1 → b ≡ true
set true bit is one = refl
set false bit is one = absurd (omega (arith, is, one))

-- a bit that is set is that of a place that passes
shown : (test : ℕ → Bool) (at bit : ℕ) → bit_at (mask_of test at 16) bit ≡ 1 → (bit < 16) × (test (at + bit) ≡ true)
unfolding mask_of
shown test at bit is =
    let passes = map test (range_with_len at 16) in
    let long = length-map-range_with_len test at 16 in
    let found : get_or passes bit false ≡ true = set (get_or passes bit false) _ (bit_mask_l passes bit) is in
    let within : bit < 16 = elim (cases_lt bit 16) [ inl below ↦ below | inr above ↦ absurd (true≢false (sym found ∙ get_or_past passes bit false (omega (arith, long)))) ] in (
      within,
      ap test (sym (get_or-range_with_len at 16 bit 0 within)) ∙ sym (get_or-map test (range_with_len at 16) bit 0 false (omega (arith, length-range_with_len at 16))) ∙ found,
    )

-- both of two numbers have a bit that they have in common
in_both : (a b bit : ℕ) → bit_at (bit_and a b) bit ≡ 1 → (bit_at a bit ≡ 1) × (bit_at b bit ≡ 1)
in_both a b bit is =
    (omega (arith, is, bit_at_and a b bit, bit_at-lt a bit, bit_at-lt b bit), omega (arith, is, bit_at_and a b bit, bit_at-lt a bit, bit_at-lt b bit))

small : (test : ℕ → Bool) (at : ℕ) → mask_of test at 16 < 2 ^ 16
unfolding mask_of
small test at = subst (λ long. mask_l (map test (range_with_len at 16)) < 2 ^ long) (length-map-range_with_len test at 16) (mask_l-lt (map test (range_with_len at 16)))

module _ (stranger : ℕ → Bool) (end first : ℕ) where
  -- strangers that stand a row apart, the first of them in the second half of the first row
  apart_bar : (bit : ℕ) → bit < 16 → stranger (first + 16 + bit) ≡ true → stranger (first + 48 + bit) ≡ true
      → stranger (first + 80 + bit) ≡ true → stranger (first + 112 + bit) ≡ true → NoRowIn stranger end first (first + 112)
  apart_bar bit few one two three four =
      no_row_further stranger end first (first + 17 + bit) (first + 112) (barred stranger end first (first + 17 + bit) (first + 16 + bit) one (omega arith) (omega arith))
      (no_row_further stranger end (first + 17 + bit) (first + 49 + bit) (first + 112) (barred stranger end (first + 17 + bit) (first + 49 + bit) (first + 48 + bit) two (omega arith) (omega arith))
      (no_row_further stranger end (first + 49 + bit) (first + 81 + bit) (first + 112) (barred stranger end (first + 49 + bit) (first + 81 + bit) (first + 80 + bit) three (omega arith) (omega arith))
      (barred stranger end (first + 81 + bit) (first + 112) (first + 112 + bit) four (omega arith) (omega arith))))

  -- a long step of the search: four masks that share a bit
  pub long_step_bars : (a b c d : ℕ) → a ≡ mask_of stranger (first + 16) 16 → b ≡ mask_of stranger (first + 16 + 32) 16
      → c ≡ mask_of stranger (first + 16 + 64) 16 → d ≡ mask_of stranger (first + 16 + 96) 16
      → IsTrue (not (nat_eq (bit_and (bit_and a b) (bit_and c d)) 0)) → NoRowIn stranger end first (first + 112)
  long_step_bars a b c d is_a is_b is_c is_d some =
      let common = bit_and (bit_and a b) (bit_and c d) in
      let below : common < 2 ^ 64 = omega (arith, and_le_l (bit_and a b) (bit_and c d), and_le_l a b, is_a, small stranger (first + 16)) in
      let lowest = bit_at-trailing_zeros w64 common (omega (arith, other common some)) below in
      let bit = trailing_zeros w64 common in
      let halves = in_both (bit_and a b) (bit_and c d) bit lowest.1 in
      let early = in_both a b bit halves.0 in
      let late = in_both c d bit halves.1 in
      let one = shown stranger (first + 16) bit (ap (λ mask. bit_at mask bit) (sym is_a) ∙ early.0) in
      let two = shown stranger (first + 16 + 32) bit (ap (λ mask. bit_at mask bit) (sym is_b) ∙ early.1) in
      let three = shown stranger (first + 16 + 64) bit (ap (λ mask. bit_at mask bit) (sym is_c) ∙ late.0) in
      let four = shown stranger (first + 16 + 96) bit (ap (λ mask. bit_at mask bit) (sym is_d) ∙ late.1) in
      let e : first + 16 + 32 + bit ≡ first + 48 + bit = omega arith in
      let f : first + 16 + 64 + bit ≡ first + 80 + bit = omega arith in
      let g : first + 16 + 96 + bit ≡ first + 112 + bit = omega arith in
      apart_bar bit one.0 one.1 (ap stranger (sym e) ∙ two.1) (ap stranger (sym f) ∙ three.1) (ap stranger (sym g) ∙ four.1)

  -- a short step of the search: two masks that share a bit
  pub short_step_bars : (a b : ℕ) → a ≡ mask_of stranger (first + 16) 16 → b ≡ mask_of stranger (first + 16 + 32) 16
      → IsTrue (not (nat_eq (bit_and a b) 0)) → NoRowIn stranger end first (first + 48)
  short_step_bars a b is_a is_b some =
      let below : bit_and a b < 2 ^ 64 = omega (arith, and_le_l a b, is_a, small stranger (first + 16)) in
      let bit = trailing_zeros w64 (bit_and a b) in
      let both = in_both a b bit (bit_at-trailing_zeros w64 (bit_and a b) (omega (arith, other (bit_and a b) some)) below).1 in
      let one = shown stranger (first + 16) bit (ap (λ mask. bit_at mask bit) (sym is_a) ∙ both.0) in
      let two = shown stranger (first + 16 + 32) bit (ap (λ mask. bit_at mask bit) (sym is_b) ∙ both.1) in
      no_row_further stranger end first (first + 17 + bit) (first + 48)
      (barred stranger end first (first + 17 + bit) (first + 16 + bit) one.1 (omega arith) (omega arith))
      (barred stranger end (first + 17 + bit) (first + 48) (first + 16 + 32 + bit) two.1 (omega arith) (omega (arith, one.0)))
