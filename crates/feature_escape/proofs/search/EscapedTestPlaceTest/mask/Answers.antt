use Rattle.std.proofs.Common.{◌≡◌, ℕ, ◌+◌, ◌-◌, ◌%◌, ◌^◌, ◌<◌, ◌==◌, ◌||◌, Bool, not, leb, get_or, refl, arith}
use Rattle.std.specs.List.{range_with_len}
use Rattle.std.proofs.lemmas.Bool.{agree_below_at}
use Rattle.std.proofs.lemmas.Simd.{zip2_of_maps}
use Rattle.byte_kit.specs.Classes.{printable_class}
use Rattle.feature_escape.specs.Escape.{stands}
use Rattle.vector_search.proofs.Lanes.{loaded, splatted, compared, either, bits_of_mask}
use Rattle.feature_escape.proofs.search.EscapedTestPlaceTest.mask.Goals as goal

-- `-` of two vectors
abbrev less : ℕ → ℕ → ℕ
less x y = (x + (2 ^ 8 - y)) % 2 ^ 8

-- what the vector's test says of a byte
escaped_found : (byte : ℕ) → byte < 256 → (leb 95 (less byte 0x20) || (byte == 92)) ≡ not (stands byte)
unfolding printable_class
escaped_found byte small = agree_below_at (λ b. leb 95 (less b 0x20) || (b == 92)) (λ b. not (stands b)) 256 byte refl small

pub returns : goal.returns
returns c =
    let bytes = c.args.bytes.now in
    let at = c.args.at in
    let byte : ℕ → ℕ = λ place. get_or bytes place 0 in
    let equal : ℕ → ℕ → Bool = λ x y. x == y in
    let unprintable : ℕ → Bool = λ place. leb 95 (less (byte place) 0x20) in
    let backslash : ℕ → Bool = λ place. byte place == 92 in
    let is_loaded = loaded bytes at 16 (omega (arith, c.requires)) in
    let is_less = zip2_of_maps less byte (λ (_ : ℕ). 0x20) (range_with_len at 16) is_loaded (splatted at 16 0x20) in
    bits_of_mask _ at (λ place. unprintable place || backslash place) (λ place. not (stands (byte place)))
    (either _ _ at unprintable backslash
    (compared leb _ _ at (λ _. 95) (λ place. less (byte place) 0x20) (splatted at 16 95) is_less)
    (compared equal _ _ at byte (λ _. 92) is_loaded (splatted at 16 92)))
    (λ place. escaped_found (byte place) (c.type_inv.bytes place).fits)
