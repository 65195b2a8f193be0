use Rattle.std.proofs.Common.{◌∙◌, ℕ, ◌+◌, ◌/◌, ◌==◌, ◌&&◌, Bool, map, get_or, ap, arith}
use Rattle.std.specs.List.{range_with_len}
use Rattle.std.proofs.lemmas.Simd.{map-map}
use Rattle.vector_search.proofs.Lanes.{loaded, loaded_behind, compared, both, bits_of_mask}
use Rattle.scan_exec.specs.Signatures.{may_begin}
use Rattle.scan_exec.specs.declared.find.TheConstants.{FIRST, SECOND}
use Rattle.scan_exec.proofs.Fronts.{both_looked_up}
use Rattle.scan_exec.proofs.find.SignatureTestPlaceTest.mask.Goals as goal

pub returns : goal.returns
unfolding may_begin
returns c =
    let bytes = c.args.bytes.now in
    let at = c.args.at in
    let places = range_with_len at 16 in
    let a : ℕ → ℕ = λ place. get_or bytes place 0 in
    let b : ℕ → ℕ = λ place. get_or bytes (place + 1) 0 in
    let first : ℕ → ℕ = λ byte. get_or FIRST (byte / 16) 0 in
    let second : ℕ → ℕ = λ byte. get_or SECOND (byte / 16) 0 in
    let is_a = loaded bytes at 16 (omega (arith, c.requires)) in
    let is_b = loaded_behind bytes at 1 16 (omega (arith, c.requires)) in
    let equal : ℕ → ℕ → Bool = λ x y. x == y in
    let p : ℕ → Bool = λ place. a place == first (a place) in
    let q : ℕ → Bool = λ place. b place == second (a place) in
    bits_of_mask _ at (λ place. p place && q place) (may_begin bytes)
    (both _ _ at p q
    (compared equal _ _ at a (λ place. first (a place)) is_a (c.by_high_half.ensures ∙ ap (map first) is_a ∙ map-map first a places))
    (compared equal _ _ at b (λ place. second (a place)) is_b (c.by_high_half-2.ensures ∙ ap (map second) is_a ∙ map-map second a places)))
    (λ place. both_looked_up (a place) (b place) (c.type_inv.bytes place).fits)
