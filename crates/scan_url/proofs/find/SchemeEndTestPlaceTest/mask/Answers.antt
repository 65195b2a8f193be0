use Rattle.std.proofs.Common.{ℕ, ◌+◌, ◌==◌, ◌&&◌, Bool, get_or, refl, arith}
use Rattle.scan_url.specs.SchemeEnd.{may_end_scheme}
use Rattle.vector_search.proofs.Lanes.{loaded, loaded_behind, splatted, compared, both, bits_of_mask}
use Rattle.scan_url.proofs.find.SchemeEndTestPlaceTest.mask.Goals as goal

pub returns : goal.returns
unfolding may_end_scheme
returns c =
    let bytes = c.args.bytes.now in
    let at = c.args.at in
    let first : ℕ → ℕ = λ place. get_or bytes place 0 in
    let second : ℕ → ℕ = λ place. get_or bytes (place + 1) 0 in
    let equal : ℕ → ℕ → Bool = λ x y. x == y in
    let is_colon : ℕ → Bool = λ place. first place == 58 in
    let is_slash : ℕ → Bool = λ place. second place == 47 in
    bits_of_mask _ at (λ place. is_colon place && is_slash place) (may_end_scheme bytes)
    (both _ _ at is_colon is_slash
    (compared equal _ _ at first (λ _. 58) (loaded bytes at 16 (omega (arith, c.requires))) (splatted at 16 58))
    (compared equal _ _ at second (λ _. 47) (loaded_behind bytes at 1 16 (omega (arith, c.requires))) (splatted at 16 47)))
    (λ _. refl)
