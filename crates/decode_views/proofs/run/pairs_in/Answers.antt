use Rattle.std.proofs.Common.{◌≡◌, ◌+◌, ◌*◌, true, get_or, ap, drop, arith}
use Rattle.decode_views.specs.Utf16.{is_pair, pairs_in}
use Rattle.decode_views.proofs.Pairs.{one_at, pairs_within}
use Rattle.decode_views.proofs.run.pairs_in.Goals as goal

pub loop-pair-preserved : goal.loop-pair-preserved
loop-pair-preserved c =
    let bytes = c.args.bytes.now in
    let pair = c.loop-pair.pair in
    let is : is_pair (get_or bytes (2 * pair) 0) (get_or bytes (2 * pair + 1) 0) ≡ true = cc (c.is_pair.ensures, c.if-not-is_pair.false) in
    let e : 2 * pair + 2 ≡ 2 * (pair + 1) = omega arith in
    let one = one_at bytes (2 * pair) (omega (arith, c.loop-pair-test.true, c.loop-pair.auto.pair-end, c.min-most.ensures)) is in
    omega (arith, c.loop-pair.invariant, one, ap (λ k. pairs_in (drop k bytes)) e)

pub returns : goal.returns
returns c =
    omega (arith, c.loop-pair.invariant, c.loop-pair-test.false, c.loop-pair.auto.pair-end, c.min-most.ensures, pairs_within c.args.bytes.now)
