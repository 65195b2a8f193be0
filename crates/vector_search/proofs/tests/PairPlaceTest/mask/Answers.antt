use Rattle.std.proofs.Common.{ℕ, ◌+◌, ◌==◌, ◌&&◌, Bool, get_or, refl, arith}
use Rattle.vector_search.proofs.Lanes.{loaded, loaded_behind, splatted, compared, both, bits_of_mask}
use Rattle.vector_search.proofs.tests.PairPlaceTest.mask.Goals as goal

pub returns : goal.returns
returns c =
    let bytes = c.args.bytes.now in
    let at = c.args.at in
    let a : ℕ → ℕ = λ place. get_or bytes place 0 in
    let b : ℕ → ℕ = λ place. get_or bytes (place + 2) 0 in
    let equal : ℕ → ℕ → Bool = λ x y. x == y in
    let is_first : ℕ → Bool = λ place. a place == 97 in
    let is_third : ℕ → Bool = λ place. b place == 98 in
    bits_of_mask _ at (λ place. is_first place && is_third place) _
    (both _ _ at is_first is_third
    (compared equal _ _ at a (λ _. 97) (loaded bytes at 16 (omega (arith, c.requires))) (splatted at 16 97))
    (compared equal _ _ at b (λ _. 98) (loaded_behind bytes at 2 16 (omega (arith, c.requires))) (splatted at 16 98)))
    (λ _. refl)
