use Rattle.std.proofs.Common.{ℕ, ◌==◌, not, Bool, get_or, refl, arith}
use Rattle.vector_search.proofs.Lanes.{loaded, splatted, compared, bits_of_mask}
use Rattle.vector_search.proofs.tests.StrangerPlaceTest.mask.Goals as goal

pub returns : goal.returns
returns c =
    let bytes = c.args.bytes.now in
    let at = c.args.at in
    let a : ℕ → ℕ = λ place. get_or bytes place 0 in
    let other : ℕ → ℕ → Bool = λ x y. not (x == y) in
    bits_of_mask _ at (λ place. other (a place) 42) _
    (compared other _ _ at a (λ _. 42) (loaded bytes at 16 (omega (arith, c.requires))) (splatted at 16 42))
    (λ _. refl)
