use Rattle.std.proofs.Common.{◌≤◌, length}
use Rattle.stop_lists.specs.Buckets.{AreFound, HasNumbersTo}
use Rattle.stop_lists.proofs.table.slots_of.Given as goal

abbrev pub invariant-loop-index : goal.invariant-loop-index
invariant-loop-index l = record {
  room : l.count ≤ length l.slots.items;
  numbers : HasNumbersTo l.slots.items l.index;
  found : AreFound l.entries l.count l.slots.items l.index;
}
