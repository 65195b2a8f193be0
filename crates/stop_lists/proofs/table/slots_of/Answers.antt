use Rattle.std.specs.Prelude.{refl}
use Rattle.std.proofs.Common.{arith}
use Rattle.stop_lists.proofs.Placed.{found_more, numbers_more}
use Rattle.stop_lists.proofs.table.slots_of.Goals as goal

pub loop-index-preserved : goal.loop-index-preserved
loop-index-preserved c =
    let put = c.in_ok-put.ensures in
    let first = rw (c.as_slice.ensures.value, c.home_of.ensures.home) at c.first_empty-at.ensures in
    record {
      room = omega (arith, put.long, c.loop-index.invariant.room);
      numbers = numbers_more put c.loop-index.index refl c.loop-index.invariant.numbers;
      found = found_more put c.args.entries.now c.args.count c.loop-index.index refl c.hash_at-hash.ensures first c.loop-index.invariant.found;
    }
