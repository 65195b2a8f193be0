use Rattle.std.proofs.Common.{ℕ, ◌==◌, Bool, not, get_or, refl, arith}
use Rattle.vector_search.proofs.Lanes.{loaded, splatted, compared, bits_of_mask}
use Rattle.scan_find.proofs.piece.HitTestPlaceTest.mask.Goals as goal

pub returns : goal.returns
returns c =
    let hits = c.args.bytes.now in
    let at = c.args.at in
    let differ : ℕ → ℕ → Bool = λ x y. not (x == y) in
    bits_of_mask _ at (λ number. differ (get_or hits number 0) 0) (λ number. not (get_or hits number 0 == 0))
    (compared differ _ _ at (λ number. get_or hits number 0) (λ _. 0) (loaded hits at 16 (omega (arith, c.requires))) (splatted at 16 0))
    (λ _. refl)
