use Rattle.std.proofs.Common.{arith}
use Rattle.decode_views.proofs.Pairs.{value_filled}
use Rattle.decode_views.proofs.value.first_bytes.Goals as goal

pub returns : goal.returns
returns c =
    value_filled c.args.pairs.now c.loop-pair.into (omega (arith, c.requires.room, c.loop-pair.auto.into))
    (λ pair within. c.loop-pair.invariant pair (omega (arith, within, c.loop-pair-test.false, c.loop-pair.auto.pair-end, c.loop-pair.auto.into)))
