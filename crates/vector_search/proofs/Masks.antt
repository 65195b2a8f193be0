-- What the bits of a mask say of its places.
use Rattle.std.proofs.Common.{◌≡◌, ◌≢◌, ◌∙◌, ℕ, zero, suc, ◌+◌, ◌-◌, ◌*◌, ◌/◌, ◌^◌, ◌<◌, ◌≤◌, Bool, true, false, not, cond, List, [], ◌∷◌, map, length, min, bit_or, refl, sym, ap, subst, inl, inr, arith, IsTrue, nat_eq, eqb-true}
use Rattle.std.specs.List.{range_with_len, prefix_len}
use Rattle.std.proofs.lemmas.Bool.{cases_lt, not-true, not-false}
use Rattle.std.proofs.lemmas.List.FromFn.{length-range_with_len, get_or-range_with_len}
use Rattle.std.proofs.lemmas.List.Sums.{prefix_len_passes, prefix_len_stops, prefix_len-le-length}
use Rattle.std.proofs.Math.Nat.{div-one}
use Rattle.std.proofs.lemmas.Nat.{and_le_l, and_le_r, div-mul-add}
use Rattle.std.proofs.lemmas.Simd.{leading_from_mask_l, trailing_mask_l}
use lib.Bits.{or_add_and}
use lib.Count.{count_trailing_zeros}
use lib.Lanes.{mask_l}
use lib.Pow.{shr-shr}
use Rattle.vector_search.specs.Places.{mask_of, NoneIn, IsNext}

-- none passes up to a place, and none from there on
pub none_further : (test : ℕ → Bool) (first middle end : ℕ) → NoneIn test first middle → NoneIn test middle end → NoneIn test first end
none_further test first middle end ahead behind place low high =
    elim (cases_lt place middle) [ inl below ↦ ahead place low below | inr above ↦ behind place above high ]

-- no bit is set where each place fails
all_fail : (test : ℕ → Bool) (places : List ℕ) → prefix_len (λ place. not (test place)) places ≡ length places → mask_l (map test places) ≡ 0
all_fail test [] h = refl
all_fail test (place ∷ places) h =
    elim (test place) as (λ b. cond (not b) (1 + prefix_len (λ p. not (test p)) places) 0 ≡ suc (length places) → cond b 1 0 + 2 * mask_l (map test places) ≡ 0)
    [ true ↦ λ e. absurd (omega (arith, e)) | false ↦ λ e. omega (arith, all_fail test places (omega (arith, e))) ] h

module _ (test : ℕ → Bool) (at count : ℕ) where
  places : List ℕ
  places = range_with_len at count

  fails : ℕ → Bool
  fails place = not (test place)

  -- so many places in front fail
  front_fails : (few : ℕ) → few ≤ count → prefix_len fails places ≡ few → NoneIn test at (at + few)
  unfolding places fails
  front_fails few within is place low high =
      let is_place : at + (place - at) ≡ place = omega arith in
      not-true (test place)
      (subst (λ p. not (test p) ≡ true)
      (get_or-range_with_len at count (place - at) 0 (omega arith) ∙ is_place)
      (prefix_len_passes fails places (place - at) 0 (omega (arith, is))))

  -- no bit of the mask is set
  pub none_marked : mask_of test at count ≡ 0 → NoneIn test at (at + count)
  unfolding mask_of places fails
  none_marked empty = front_fails count (omega arith) (leading_from_mask_l test places empty ∙ length-range_with_len at count)

  -- a bit is set: the lowest one is that of the first place that passes
  pub first_marked : count ≤ 64 → 0 < mask_of test at count →
      let first = count_trailing_zeros 64 (mask_of test at count) in (first < count) × (test (at + first) ≡ true) × NoneIn test at (at + first)
  unfolding mask_of places fails
  first_marked small some =
      let long = length-range_with_len at count in
      let first = count_trailing_zeros 64 (mask_of test at count) in
      let is : first ≡ prefix_len fails places = trailing_mask_l test 64 places (omega (arith, long)) some in
      let within = prefix_len-le-length fails places in
      let below : first < count =
      elim (cases_lt first count) [ inl l ↦ l | inr g ↦ absurd (omega (arith, some, all_fail test places (omega (arith, is, within, long)))) ] in (
        below,
        not-false (test (at + first))
            (subst (λ p. not (test p) ≡ false)
            (get_or-range_with_len at count (prefix_len fails places) 0 (omega (arith, is)) ∙ ap (λ k. at + k) (sym is))
            (prefix_len_stops fails places 0 (omega (arith, is, long)))),
        front_fails first (omega arith) (sym is),
      )

-- neither of two masks has a bit
or_zero : (a b : ℕ) → bit_or a b ≡ 0 → (a ≡ 0) × (b ≡ 0)
or_zero a b h = (omega (arith, h, or_add_and a b, and_le_l a b, and_le_r a b), omega (arith, h, or_add_and a b, and_le_l a b, and_le_r a b))

-- none of four masks has a bit
pub none_in_four : (test : ℕ → Bool) (at : ℕ) →
    bit_or (bit_or (mask_of test at 16) (mask_of test (at + 16) 16)) (bit_or (mask_of test (at + 32) 16) (mask_of test (at + 48) 16)) ≡ 0 →
    NoneIn test at (at + 64)
none_in_four test at h =
    let halves = or_zero _ _ h in
    let low = or_zero _ _ halves.0 in
    let high = or_zero _ _ halves.1 in
    let step : (from : ℕ) (to : ℕ) → from + 16 ≡ to → mask_of test from 16 ≡ 0 → NoneIn test from to =
    λ from to e empty. subst (λ end. NoneIn test from end) e (none_marked test from 16 empty) in
    none_further test at (at + 16) (at + 64) (step at (at + 16) refl low.0)
    (none_further test (at + 16) (at + 32) (at + 64) (step (at + 16) (at + 32) (omega arith) low.1)
    (none_further test (at + 32) (at + 48) (at + 64) (step (at + 32) (at + 48) (omega arith) high.0) (step (at + 48) (at + 64) (omega arith) high.1)))

-- a step of the search: four masks without a bit
pub quiet : (test : ℕ → Bool) (at : ℕ) (a b c d : ℕ) →
    a ≡ mask_of test at 16 → b ≡ mask_of test (at + 16) 16 → c ≡ mask_of test (at + 32) 16 → d ≡ mask_of test (at + 48) 16 →
    IsTrue (nat_eq (bit_or (bit_or a b) (bit_or c d)) 0) → NoneIn test at (at + 64)
quiet test at a b c d is_a is_b is_c is_d empty =
    none_in_four test at (rw (sym is_a, sym is_b, sym is_c, sym is_d) (eqb-true _ _ empty))

-- the first place that a mask shows is the next one
pub next_marked : (test : ℕ → Bool) (first at end marks : ℕ) → first ≤ at → at + 16 ≤ end → NoneIn test first at →
    marks ≡ mask_of test at 16 → marks ≢ 0 → IsNext test first end (at + count_trailing_zeros 64 marks)
next_marked test first at end marks low room none is some =
    let found = first_marked test at 16 (omega arith) (omega (arith, is, some)) in
    let same = ap (count_trailing_zeros 64) is in record {
      low = omega arith;
      high = omega (arith, same, found.0);
      before = none_further test first at (at + count_trailing_zeros 64 marks) none (rw same found.2);
      passes = λ _. rw same found.1;
    }

-- a mask without a bit is passed over
pub none_to : (test : ℕ → Bool) (first at marks : ℕ) → NoneIn test first at →
    marks ≡ mask_of test at 16 → marks ≡ 0 → NoneIn test first (at + 16)
none_to test first at marks none is empty =
    none_further test first at (at + 16) none (none_marked test at 16 (sym is ∙ empty))

-- the bits of a mask from a later place on are a mask of the places from there on
mask_behind : (test : ℕ → Bool) (skip first count : ℕ) → skip ≤ count → mask_of test first count / 2 ^ skip ≡ mask_of test (first + skip) (count - skip)
unfolding mask_of
mask_behind test zero first count _ =
    div-one (mask_of test first count) ∙ ap (λ at. mask_of test at count) (omega arith) ∙ ap (λ few. mask_of test (first + 0) few) (omega arith)
mask_behind test (suc skip) first zero within = absurd (omega (arith, within))
mask_behind test (suc skip) first (suc count) within =
    let rest = mask_l (map test (range_with_len (first + 1) count)) in
    let bit : ℕ = cond (test first) 1 0 in
    let low : bit < 2 = elim (test first) as (λ b. cond b 1 0 < 2) [ true ↦ omega arith | false ↦ omega arith ] in
    let halved : (bit + 2 * rest) / 2 ≡ rest = ap (λ n. n / 2) (omega arith) ∙ div-mul-add rest 2 bit low in
    let more : suc skip ≡ 1 + skip = omega arith in
    let place : first + 1 + skip ≡ first + suc skip = omega arith in
    let few : count - skip ≡ suc count - suc skip = omega arith in
    ap (λ k. (bit + 2 * rest) / 2 ^ k) more ∙ sym (shr-shr (bit + 2 * rest) 1 skip) ∙ ap (λ n. n / 2 ^ skip) halved ∙ mask_behind test skip (first + 1) count (omega (arith, within))
    ∙ ap (λ at. mask_of test at (count - skip)) place ∙ ap (mask_of test (first + suc skip)) few

-- a mask that begins so many places ahead of the first that is asked for
module _ (test : ℕ → Bool) (first skip mask : ℕ) (within : skip < 16) (is : mask ≡ mask_of test first 16) where
  marks : ℕ
  marks = mask / 2 ^ skip

  shown : marks ≡ mask_of test (first + skip) (16 - skip)
  unfolding marks
  shown = ap (λ n. n / 2 ^ skip) is ∙ mask_behind test skip first 16 (omega (arith, within))

  -- none of its places from there on passes
  pub last_empty : (at end : ℕ) → at ≡ first + skip → end ≤ first + 16 → mask / 2 ^ skip ≡ 0 → NoneIn test at end
  unfolding marks
  last_empty at end begins ends empty place low high =
      none_marked test (first + skip) (16 - skip) (sym shown ∙ empty) place (omega (arith, begins, low)) (omega (arith, within, ends, high))

  -- one passes: none ahead of the first that does
  pub last_shown : (at end : ℕ) → at ≡ first + skip → mask / 2 ^ skip ≢ 0 → NoneIn test at (min (at + count_trailing_zeros 64 (mask / 2 ^ skip)) end)
  unfolding marks
  last_shown at end begins some place low high =
      let found = first_marked test (first + skip) (16 - skip) (omega arith) (omega (arith, shown, some)) in
      let same = ap (count_trailing_zeros 64) shown in
      found.2 place (omega (arith, begins, low)) (omega (arith, begins, same, high))
