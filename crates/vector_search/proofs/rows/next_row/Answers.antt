use Rattle.std.proofs.Common.{◌+◌, length, arith}
use Rattle.vector_search.proofs.Broken.{no_row_further, fewer, mask_bars, none_to_end, stands_there, few_zeros}
use lib.Count.{count_trailing_zeros}
use Rattle.vector_search.proofs.rows.next_row.Goals as goal

pub past_broken-at-requires-clause-within : goal.past_broken-at-requires-clause-within
past_broken-at-requires-clause-within g c =
    let few = few_zeros (g.T.PlaceTest.passes c.args.strangers.now c.args.bytes.now) (c.loop-at.at + 16) _ c.mask-late.ensures c.if-late-ne0.true in
    omega (arith, few, c.loop-at.invariant.within, c.if-length-at-ge-ROW.true)

pub loop-at-preserved-then-late-ne0 : goal.loop-at-preserved-then-late-ne0
loop-at-preserved-then-late-ne0 g c =
    let stranger = g.T.PlaceTest.passes c.args.strangers.now c.args.bytes.now in
    let end = length c.args.bytes.now in
    let at = c.loop-at.at in
    let behind = at + 16 + count_trailing_zeros 64 c.mask-late.result + 1 in
    let next = at + 16 + 1 + count_trailing_zeros 64 c.mask-late.result in record {
      low = omega (arith, c.loop-at.invariant.low, c.past_broken-at.ensures.low);
      within = c.past_broken-at.ensures.high;
      none = no_row_further stranger end c.args.from at c.past_broken-at.result c.loop-at.invariant.none
          (no_row_further stranger end at next c.past_broken-at.result
          (fewer stranger end at next behind (omega arith) (mask_bars stranger end at (at + 16) c.mask-late.result (omega arith) (omega arith) c.mask-late.ensures c.if-late-ne0.true))
          c.past_broken-at.ensures.none);
    }

pub returns-then-early-eq0 : goal.returns-then-early-eq0
returns-then-early-eq0 g c =
    let stranger = g.T.PlaceTest.passes c.args.strangers.now c.args.bytes.now in
    let at = c.loop-at.at in record {
      low = c.loop-at.invariant.low;
      high = omega (arith, c.loop-at-test.true);
      before = c.loop-at.invariant.none;
      stands = λ _. stands_there stranger (length c.args.bytes.now) at c.mask-early.result c.mask-late.result (omega (arith, c.loop-at.invariant.within, c.if-length-at-ge-ROW.true))
          c.mask-early.ensures c.mask-late.ensures c.if-early-eq0.true c.if-late-ne0.false;
    }

pub loop-at-preserved : goal.loop-at-preserved
loop-at-preserved g c =
    let stranger = g.T.PlaceTest.passes c.args.strangers.now c.args.bytes.now in
    let end = length c.args.bytes.now in
    let at = c.loop-at.at in
    let zeros = count_trailing_zeros 64 c.mask-early.result in
    let few = few_zeros stranger at c.mask-early.result c.mask-early.ensures c.if-early-eq0.false in record {
      low = omega (arith, c.loop-at.invariant.low);
      within = omega (arith, few, c.loop-at.invariant.within, c.if-length-at-ge-ROW.true);
      none = no_row_further stranger end c.args.from at (at + (1 + zeros)) c.loop-at.invariant.none
          (fewer stranger end at (at + (1 + zeros)) (at + zeros + 1) (omega arith) (mask_bars stranger end at at c.mask-early.result (omega arith) (omega arith) c.mask-early.ensures c.if-early-eq0.false));
    }

pub returns-else-length-at-ge-ROW : goal.returns-else-length-at-ge-ROW
returns-else-length-at-ge-ROW g c =
    let stranger = g.T.PlaceTest.passes c.args.strangers.now c.args.bytes.now in
    let end = length c.args.bytes.now in
    let at = c.loop-at.at in record {
      low = c.requires.ordered;
      high = omega arith;
      before = no_row_further stranger end c.args.from at c.args.to c.loop-at.invariant.none
          (none_to_end stranger end at c.args.to (omega (arith, c.loop-at.invariant.within, c.if-length-at-ge-ROW.false)));
      stands = λ more. absurd (omega (arith, more));
    }

pub returns-after-loop-at : goal.returns-after-loop-at
returns-after-loop-at g c = record {
  low = c.requires.ordered;
  high = omega arith;
  before = fewer (g.T.PlaceTest.passes c.args.strangers.now c.args.bytes.now) (length c.args.bytes.now) c.args.from c.args.to c.loop-at.at (omega (arith, c.loop-at-test.false)) c.loop-at.invariant.none;
  stands = λ more. absurd (omega (arith, more));
}
