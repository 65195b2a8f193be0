use Rattle.std.proofs.Common.{◌+◌, length, arith}
use Rattle.vector_search.proofs.Broken.{no_row_further}
use Rattle.vector_search.proofs.rows.past_shared.Goals as goal

pub loop-at-preserved-then-are_shared : goal.loop-at-preserved-then-are_shared
loop-at-preserved-then-are_shared g c =
    let stranger = g.T.PlaceTest.passes c.args.strangers.now c.args.bytes.now in
    let at = c.loop-at.at in record {
      low = omega (arith, c.loop-at.invariant.low);
      high = omega (arith, c.loop-at.invariant.high, c.if-length-at.true);
      none = no_row_further stranger (length c.args.bytes.now) c.args.from at (at + 112) c.loop-at.invariant.none (c.are_shared.ensures c.if-are_shared.true);
    }

pub loop-at-preserved : goal.loop-at-preserved
loop-at-preserved g c =
    let stranger = g.T.PlaceTest.passes c.args.strangers.now c.args.bytes.now in
    let at = c.loop-at.at in record {
      low = omega (arith, c.loop-at.invariant.low);
      high = omega (arith, c.loop-at.invariant.high, c.if-length-at.true);
      none = no_row_further stranger (length c.args.bytes.now) c.args.from at (at + 48) c.loop-at.invariant.none (c.are_paired.ensures c.if-are_paired.true);
    }
