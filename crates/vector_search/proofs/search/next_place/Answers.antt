use Rattle.std.proofs.Common.{arith}
use Rattle.vector_search.proofs.Masks.{next_marked, none_to}
use Rattle.vector_search.proofs.search.next_place.Goals as goal

pub returns-then-marks-ne0 : goal.returns-then-marks-ne0
returns-then-marks-ne0 g c =
    next_marked (g.T.PlaceTest.passes c.args.test.now c.args.bytes.now) c.args.from c.loop-at.at c.args.to _
    c.loop-at.invariant.low (omega (arith, c.loop-at-test.true, c.loop-at.invariant.high)) c.loop-at.invariant.none
    c.mask-marks.ensures c.if-marks-ne0.true

pub loop-at-preserved : goal.loop-at-preserved
loop-at-preserved g c =
    let at = c.loop-at.at in record {
      low = omega (arith, c.loop-at.invariant.low);
      high = omega (arith, c.loop-at-test.true, c.loop-at.invariant.high);
      none = none_to (g.T.PlaceTest.passes c.args.test.now c.args.bytes.now) c.args.from at _ c.loop-at.invariant.none
          c.mask-marks.ensures c.if-marks-ne0.false;
    }
