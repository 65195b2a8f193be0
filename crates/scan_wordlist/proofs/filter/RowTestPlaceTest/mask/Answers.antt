use Rattle.std.proofs.Common.{◌≡◌, ◌∙◌, ℕ, ◌+◌, Bool, leb, take, drop, map, ap, arith}
use Rattle.std.specs.List.{range_with_len}
use Rattle.vector_search.proofs.Lanes.{splatted, compared, bits_of_mask}
use Rattle.scan_wordlist.specs.Filter.{behind_first, begins_row}
use Rattle.scan_wordlist.proofs.Distances.{farthest, first_lanes, more_lanes, row_found}
use Rattle.scan_wordlist.proofs.filter.RowTestPlaceTest.mask.Goals as goal

pub loop-more-init : goal.loop-more-init
loop-more-init g c = c.behind_first-farthest.ensures ∙ first_lanes c.args.bytes.now c.args.at (omega (arith, c.requires))

pub loop-more-preserved : goal.loop-more-preserved
loop-more-preserved g c =
    let bytes = c.args.bytes.now in
    let at = c.args.at in
    let more = c.loop-more.more in
    let e : at + 1 + more ≡ at + (1 + more) = omega arith in
    more_lanes bytes at more c.loop-more.farthest c.behind_first.result (omega (arith, c.requires)) c.loop-more.invariant
    (c.behind_first.ensures ∙ ap (λ from. map behind_first (take 16 (drop from bytes))) e)

pub returns : goal.returns
returns g c =
    let bytes = c.args.bytes.now in
    let at = c.args.at in
    let more = g.row.MORE in
    let near : ℕ → Bool = λ place. leb (farthest bytes more place) 93 in
    let all : c.loop-more.more ≡ more = omega (arith, c.loop-more-test.false, c.loop-more.auto.more-end) in
    bits_of_mask _ at near (begins_row (more + 1) bytes)
    (compared leb _ _ at (farthest bytes more) (λ _. 93) (c.loop-more.invariant ∙ ap (λ m. map (farthest bytes m) (range_with_len at 16)) all) (splatted at 16 93))
    (row_found bytes (λ place. (c.type_inv.bytes place).fits) more)
