use Rattle.std.proofs.Common.{◌+◌, length, arith}
use Rattle.vector_search.proofs.Broken.{no_row_further, block_bars}
use Rattle.vector_search.proofs.rows.past_broken.Goals as goal

pub loop-wide-init : goal.loop-wide-init
loop-wide-init g c =
    let stranger = g.T.PlaceTest.passes c.args.strangers.now c.args.bytes.now in
    let sampled = c.past_sampled-sampled in
    let shared = c.past_shared-wide in record {
      low = omega (arith, sampled.ensures.low, shared.ensures.low);
      high = shared.ensures.high;
      none = no_row_further stranger (length c.args.bytes.now) c.args.from sampled.result shared.result sampled.ensures.none shared.ensures.none;
    }

pub loop-wide-preserved : goal.loop-wide-preserved
loop-wide-preserved g c =
    let stranger = g.T.PlaceTest.passes c.args.strangers.now c.args.bytes.now in
    let at = c.loop-wide.wide in record {
      low = omega (arith, c.loop-wide.invariant.low);
      high = omega (arith, c.loop-wide.invariant.high, c.if-length-wide.true);
      none = no_row_further stranger (length c.args.bytes.now) c.args.from at (at + 64) c.loop-wide.invariant.none (c.are_broken.ensures c.if-are_broken.true);
    }

pub loop-at-preserved : goal.loop-at-preserved
loop-at-preserved g c =
    let stranger = g.T.PlaceTest.passes c.args.strangers.now c.args.bytes.now in
    let end = length c.args.bytes.now in
    let at = c.loop-at.at in record {
      low = omega (arith, c.loop-at.invariant.low);
      high = omega (arith, c.loop-at.invariant.high, c.if-length-at.true);
      none = no_row_further stranger end c.args.from at (at + 16) c.loop-at.invariant.none (block_bars stranger end at _ c.mask.ensures c.if-mask-ne0.true);
    }
