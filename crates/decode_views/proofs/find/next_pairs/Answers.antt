use Rattle.std.proofs.Common.{◌+◌, arith}
use Rattle.decode_views.proofs.PairPlaces.{none_passed, none_joined}
use Rattle.decode_views.proofs.find.next_pairs.Goals as goal

pub loop-at-preserved : goal.loop-at-preserved
loop-at-preserved c =
    let at = c.loop-at.at in record {
      low = omega (arith, c.loop-at.invariant.low);
      high = omega (arith, c.loop-at-test.true, c.loop-at.invariant.high);
      none = none_joined c.args.bytes.now c.args.next at (at + 112) c.loop-at.invariant.none (c.is_bare.ensures c.if-is_bare.true);
    }

pub returns-clause-none : goal.returns-clause-none
returns-clause-none c =
    let at = c.loop-at.at in
    none_joined c.args.bytes.now c.args.next at c.next_place.result c.loop-at.invariant.none
    (none_passed c.args.bytes.now at c.next_place.result c.next_place.ensures.before)
