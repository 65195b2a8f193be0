-- Where no run of pairs begins.
use Rattle.std.proofs.Common.{◌≡◌, ◌∙◌, ℕ, ◌+◌, ◌-◌, ◌*◌, ◌/◌, ◌<◌, ◌≤◌, true, false, ◌==◌, ◌&&◌, nat_eq, eqb-true, IsTrue, List, [], length, take, drop, get_or, refl, sym, ap, subst, inl, inr, arith, length-drop}
use Rattle.std.specs.Prelude.{nat_le}
use Rattle.std.proofs.lemmas.Bool.{cases_lt, false≢true, and_parts}
use Rattle.std.proofs.lemmas.Bool.Decides.{nat_tests}
use Rattle.std.proofs.lemmas.List.{get_or-take, length-take, drop-drop}
use Rattle.sbuf_nest.specs.Around.{look_at}
use Rattle.sbuf_nest.specs.Marks.{NoneFrom}
use Rattle.vector_search.specs.Places.{NoneIn, mask_of}
use Rattle.vector_search.proofs.Masks.{none_marked}
use Rattle.sbuf_nest.specs.declared.look.TheConstants.{LOOK_BEFORE, LOOK_AFTER}
use Rattle.decode_views.specs.Utf16.{is_pair, pairs_in, last_pairs, begins_pairs, utf16_run, utf16_extent}
use Rattle.decode_views.specs.Starts.{utf16_starts}
use Rattle.decode_views.specs.TwoPairs.{are_two_pairs}
use Rattle.decode_views.proofs.Pairs.{one_at, and_false, second_begins_none, pairs_within, pairs_in-take, pair_at, none_at}

too_few : (pairs : ℕ) → pairs < 8 → nat_le 8 pairs ≡ false
too_few pairs few = grind (arith, nat_tests)

module _ (bytes : List ℕ) where
  fewer_taken : (count place : ℕ) → pairs_in (drop place bytes) < 8 → pairs_in (take count (drop place bytes)) < 8
  fewer_taken count place few = omega (arith, few, pairs_in-take count (drop place bytes))

  -- ---- places without a run

  -- too few pairs stand in a row
  pub few_pairs : (place : ℕ) → pairs_in (drop place bytes) < 8 → utf16_starts (look_at bytes place) place ≡ []
  unfolding utf16_run utf16_extent look_at
  few_pairs place few =
      let none = too_few (pairs_in (take LOOK_AFTER (drop place bytes))) (fewer_taken LOOK_AFTER place few) in
      rw (and_false (begins_pairs (look_at bytes place)) _ none) refl

  -- the last two bytes ahead are those of the Look
  last_seen : (place : ℕ) → place ≤ length bytes → last_pairs (drop (place - LOOK_BEFORE) (take place bytes)) ≡ last_pairs (take place bytes)
  last_seen place within =
      let ahead = take place bytes in
      let taken = length-take place bytes in
      let long = length-drop (place - LOOK_BEFORE) ahead in
      let e : place - LOOK_BEFORE + (length (drop (place - LOOK_BEFORE) ahead) - 2) ≡ length ahead - 2 = omega (arith, taken, long) in
      ap pairs_in (drop-drop (length (drop (place - LOOK_BEFORE) ahead) - 2) (place - LOOK_BEFORE) ahead ∙ ap (λ k. drop k ahead) e)

  -- a pair stands right ahead
  pub pair_ahead : (place : ℕ) → place ≤ length bytes → (last_pairs (take place bytes) == 0) ≡ false → utf16_starts (look_at bytes place) place ≡ []
  unfolding utf16_run utf16_extent look_at
  pair_ahead place within is =
      let begins : begins_pairs (look_at bytes place) ≡ false = ap (λ pairs. pairs == 0) (last_seen place within) ∙ is in
      rw begins refl

  last_pair : (place : ℕ) → place + 2 ≤ length bytes → is_pair (get_or bytes place 0) (get_or bytes (place + 1) 0) ≡ true → (last_pairs (take (place + 2) bytes) == 0) ≡ false
  last_pair place within is =
      let ahead = take (place + 2) bytes in
      let taken = length-take (place + 2) bytes in
      let e : length ahead - 2 ≡ place = omega (arith, taken) in
      let first : get_or ahead place 0 ≡ get_or bytes place 0 = get_or-take (place + 2) bytes place 0 (omega arith) in
      let second : get_or ahead (place + 1) 0 ≡ get_or bytes (place + 1) 0 = get_or-take (place + 2) bytes (place + 1) 0 (omega arith) in
      let one = one_at ahead place (omega (arith, taken)) (rw (first, second) is) in
      ap (λ k. pairs_in (drop k ahead) == 0) e ∙ grind (arith, nat_tests, one)

  -- ---- places passed over

  -- no two pairs stand in a row
  pub none_without_two : (place : ℕ) → are_two_pairs bytes place ≡ false → utf16_starts (look_at bytes place) place ≡ []
  unfolding are_two_pairs
  none_without_two place is =
      few_pairs place (
      elim (cases_lt (pairs_in (drop place bytes)) 8) [
        | inl few ↦ few
        | inr eight ↦ (
            let first = pair_at bytes place 0 place (place + 1) (omega (arith, eight)) (omega arith) refl in
            let second = pair_at bytes place 1 (place + 2) (place + 3) (omega (arith, eight)) (omega arith) (omega arith) in
            absurd (false≢true (sym is ∙ rw (first, second) refl))
            )
      ]
      )

  -- none of the places passes the test
  pub none_passed : (first end : ℕ) → NoneIn (are_two_pairs bytes) first end → NoneFrom utf16_starts bytes first end
  none_passed first end none place low high = none_without_two place (none place low high)

  -- one range behind the other
  pub none_joined : (first middle end : ℕ) → NoneFrom utf16_starts bytes first middle → NoneFrom utf16_starts bytes middle end
      → NoneFrom utf16_starts bytes first end
  none_joined first middle end one two place low high = elim (cases_lt place middle) [
    | inl ahead ↦ one place low ahead
    | inr behind ↦ two place behind high
  ]

  -- a run that begins at one of twenty-eight places has two pairs in a row at one of the last sixteen
  pub none_told : (at : ℕ) → NoneIn (are_two_pairs bytes) (at + 12) (at + 28) → NoneFrom utf16_starts bytes at (at + 28)
  unfolding are_two_pairs
  none_told at none place low high =
      let pair = (at + 13 - place) / 2 in
      let two = place + 2 * pair in
      few_pairs place (
      elim (cases_lt (pairs_in (drop place bytes)) 8) [
        | inl few ↦ few
        | inr eight ↦ (
            let first = pair_at bytes place pair two (two + 1) (omega (arith, eight, low)) refl refl in
            let second = pair_at bytes place (pair + 1) (two + 2) (two + 3) (omega (arith, eight, low)) (omega arith) (omega arith) in
            absurd (false≢true (sym (none two (omega (arith, low, high)) (omega (arith, low, high))) ∙ rw (first, second) refl))
            )
      ]
      )

  told : (at from marks : ℕ) → from ≡ at + 12 → marks ≡ mask_of (are_two_pairs bytes) from 16 → IsTrue (nat_eq marks 0) → NoneFrom utf16_starts bytes at (at + 28)
  told at from marks is_from is empty =
      let none = none_marked (are_two_pairs bytes) from 16 (sym is ∙ eqb-true marks 0 empty) in
      none_told at (λ place low high. none place (omega (arith, is_from, low)) (omega (arith, is_from, high)))

  told_to : (at end from marks : ℕ) → end ≡ at + 28 → from ≡ at + 12 → marks ≡ mask_of (are_two_pairs bytes) from 16 → IsTrue (nat_eq marks 0)
      → NoneFrom utf16_starts bytes at end
  told_to at end from marks is_end is_from is empty place low high = told at from marks is_from is empty place low (omega (arith, is_end, high))

  -- a step of the search: four masks without a bit
  pub none_by_masks : (at a b c d : ℕ) → a ≡ mask_of (are_two_pairs bytes) (at + 12) 16 → b ≡ mask_of (are_two_pairs bytes) (at + 12 + 28) 16
      → c ≡ mask_of (are_two_pairs bytes) (at + 12 + 56) 16 → d ≡ mask_of (are_two_pairs bytes) (at + 12 + 84) 16
      → IsTrue (nat_eq a 0 && nat_eq b 0 && nat_eq c 0 && nat_eq d 0) → NoneFrom utf16_starts bytes at (at + 112)
  none_by_masks at a b c d is_a is_b is_c is_d empty place low high =
      let three = and_parts (nat_eq a 0 && nat_eq b 0 && nat_eq c 0) (nat_eq d 0) empty in
      let two = and_parts (nat_eq a 0 && nat_eq b 0) (nat_eq c 0) three.0 in
      let one = and_parts (nat_eq a 0) (nat_eq b 0) two.0 in
      none_joined at (at + 28) (at + 112) (told at (at + 12) a refl is_a one.0)
      (none_joined (at + 28) (at + 56) (at + 112) (told_to (at + 28) (at + 56) (at + 12 + 28) b (omega arith) (omega arith) is_b one.1)
      (none_joined (at + 56) (at + 84) (at + 112) (told_to (at + 56) (at + 84) (at + 12 + 56) c (omega arith) (omega arith) is_c two.1)
      (told_to (at + 84) (at + 112) (at + 12 + 84) d (omega arith) (omega arith) is_d three.1)))
      place low high

  -- the pairs from a place on where none begins, and the place behind them
  pub none_over : (at pairs : ℕ) → at < length bytes → pairs ≤ pairs_in (drop at bytes) → utf16_starts (look_at bytes at) at ≡ []
      → NoneFrom utf16_starts bytes at (at + (2 * pairs + 1))
  none_over at pairs within some none place low high =
      let pair = (place - at - 1) / 2 in
      elim (cases_lt at place) [
        | inl behind ↦ (
            let here = pair_at bytes at pair (at + 2 * pair) (at + 2 * pair + 1) (omega (arith, some, low, high, behind)) refl refl in
            elim (cases_lt (at + 2 * pair + 1) place) [
              | inl even ↦ (
                  let e : at + 2 * pair + 2 ≡ place = omega (arith, even, behind) in
                  let inside : place ≤ length bytes = omega (arith, some, high, pairs_within (drop at bytes), length-drop at bytes, within) in
                  let last = last_pair (at + 2 * pair) (omega (arith, e, inside)) here in
                  pair_ahead place inside (ap (λ k. last_pairs (take k bytes) == 0) (sym e) ∙ last)
                  )
              | inr odd ↦ (
                  let e : place ≡ at + 2 * pair + 1 = omega (arith, odd, behind) in
                  let second = second_begins_none (get_or bytes (at + 2 * pair) 0) (get_or bytes (at + 2 * pair + 1) 0) (get_or bytes (place + 1) 0) here in
                  let begins_none = none_at bytes place (ap (λ k. is_pair (get_or bytes k 0) (get_or bytes (place + 1) 0)) e ∙ second) in
                  few_pairs place (omega (arith, begins_none))
                  )
            ]
            )
        | inr here ↦ (
            let e : at ≡ place = omega (arith, here, low) in
            subst (λ p. utf16_starts (look_at bytes p) p ≡ []) e none
            )
      ]
