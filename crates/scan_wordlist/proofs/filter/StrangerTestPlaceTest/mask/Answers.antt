use Rattle.std.proofs.Common.{◌∙◌, ℕ, Bool, ltb, get_or, arith}
use Rattle.vector_search.proofs.Lanes.{splatted, compared, bits_of_mask}
use Rattle.scan_wordlist.specs.Filter.{is_stranger}
use Rattle.scan_wordlist.proofs.Distances.{farthest, first_lanes, stranger_found}
use Rattle.scan_wordlist.proofs.filter.StrangerTestPlaceTest.mask.Goals as goal

pub returns : goal.returns
unfolding is_stranger farthest
returns c =
    let bytes = c.args.bytes.now in
    let at = c.args.at in
    let far : ℕ → Bool = λ place. ltb 93 (farthest bytes 0 place) in
    bits_of_mask _ at far (is_stranger bytes)
    (compared ltb _ _ at (λ _. 93) (farthest bytes 0) (splatted at 16 93) (c.behind_first.ensures ∙ first_lanes bytes at (omega (arith, c.requires))))
    (λ place. stranger_found (get_or bytes place 0) (c.type_inv.bytes place).fits)
