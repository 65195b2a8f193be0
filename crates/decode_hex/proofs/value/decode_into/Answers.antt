use Rattle.std.proofs.Common.{arith}
use Rattle.decode_hex.proofs.Digits.{value_filled}
use Rattle.decode_hex.proofs.value.decode_into.Goals as goal

pub returns : goal.returns
returns c =
    let at = c.loop-at in
    value_filled c.args.digits.now at.into (omega (arith, c.requires.room, at.auto.into))
    (λ k below. at.invariant k (omega (arith, below, c.loop-at-test.false, at.auto.into, at.auto.at-end)))
