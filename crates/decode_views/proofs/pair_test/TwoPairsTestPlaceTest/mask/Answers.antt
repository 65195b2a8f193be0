use Rattle.std.proofs.Common.{◌≡◌, ℕ, ◌+◌, ◌-◌, ◌%◌, ◌^◌, ◌<◌, ◌==◌, ◌&&◌, Bool, true, false, leb, get_or, refl, arith}
use Rattle.std.specs.List.{range_with_len}
use Rattle.std.proofs.lemmas.Bool.{agree_below_at}
use Rattle.std.proofs.lemmas.Simd.{zip2_of_maps}
use Rattle.byte_kit.specs.Classes.{printable_class}
use Rattle.vector_search.proofs.Lanes.{loaded, loaded_behind, splatted, compared, both, bits_of_mask}
use Rattle.decode_views.specs.TwoPairs.{are_two_pairs}
use Rattle.decode_views.proofs.pair_test.TwoPairsTestPlaceTest.mask.Goals as goal

-- `-` of two vectors
abbrev less : ℕ → ℕ → ℕ
less x y = (x + (2 ^ 8 - y)) % 2 ^ 8

-- what the vector's test says of a byte
printable_found : (byte : ℕ) → byte < 256 → leb (less byte 32) 94 ≡ printable_class byte
unfolding printable_class
printable_found byte small = agree_below_at (λ b. leb (less b 32) 94) printable_class 256 byte refl small

and_true : (t : Bool) → (t && true) ≡ t
and_true true = refl
and_true false = refl

and_false : (t : Bool) → (t && false) ≡ false
and_false true = refl
and_false false = refl

in_pairs : (a b s t : Bool) → ((a && b) && (s && t)) ≡ ((s && a) && (t && b))
in_pairs true true true t = rw (and_true t) refl
in_pairs true true false t = refl
in_pairs true false true t = rw (and_false t) refl
in_pairs true false false t = refl
in_pairs false b true t = refl
in_pairs false b false t = refl

same_tests : (a b p q s t : Bool) → p ≡ s → q ≡ t → ((a && b) && (p && q)) ≡ ((s && a) && (t && b))
same_tests a b p q s t e f = rw (e, f) (in_pairs a b s t)

pub returns : goal.returns
unfolding are_two_pairs
returns c =
    let bytes = c.args.bytes.now in
    let at = c.args.at in
    let places = range_with_len at 16 in
    let first : ℕ → ℕ = λ place. get_or bytes place 0 in
    let first_zero : ℕ → ℕ = λ place. get_or bytes (place + 1) 0 in
    let second : ℕ → ℕ = λ place. get_or bytes (place + 2) 0 in
    let second_zero : ℕ → ℕ = λ place. get_or bytes (place + 3) 0 in
    let equal : ℕ → ℕ → Bool = λ x y. x == y in
    let is_first_zero : ℕ → Bool = λ place. first_zero place == 0 in
    let is_second_zero : ℕ → Bool = λ place. second_zero place == 0 in
    let is_first : ℕ → Bool = λ place. leb (less (first place) 32) 94 in
    let is_second : ℕ → Bool = λ place. leb (less (second place) 32) 94 in
    let less_first = zip2_of_maps less first (λ (_ : ℕ). 32) places (loaded bytes at 16 (omega (arith, c.requires))) (splatted at 16 32) in
    let less_second = zip2_of_maps less second (λ (_ : ℕ). 32) places (loaded_behind bytes at 2 16 (omega (arith, c.requires))) (splatted at 16 32) in
    let zeros : ℕ → Bool = λ place. is_first_zero place && is_second_zero place in
    let printable : ℕ → Bool = λ place. is_first place && is_second place in
    bits_of_mask _ at (λ place. zeros place && printable place) (are_two_pairs bytes)
    (both _ _ at zeros printable
    (both _ _ at is_first_zero is_second_zero
    (compared equal _ _ at first_zero (λ _. 0) (loaded_behind bytes at 1 16 (omega (arith, c.requires))) (splatted at 16 0))
    (compared equal _ _ at second_zero (λ _. 0) (loaded_behind bytes at 3 16 (omega (arith, c.requires))) (splatted at 16 0)))
    (both _ _ at is_first is_second
    (compared leb _ _ at (λ place. less (first place) 32) (λ _. 94) less_first (splatted at 16 94))
    (compared leb _ _ at (λ place. less (second place) 32) (λ _. 94) less_second (splatted at 16 94))))
    (λ place. same_tests (is_first_zero place) (is_second_zero place) (is_first place) (is_second place) _ _
    (printable_found (first place) (c.type_inv.bytes place).fits) (printable_found (second place) (c.type_inv.bytes (place + 2)).fits))
