use Rattle.std.proofs.Common.{◌-◌, ◌≤◌, length}
use Rattle.vector_search.specs.Rows.{NoRowIn}
use Rattle.vector_search.proofs.rows.past_sampled.Given as goal

-- no row stands at the places passed
abbrev pub invariant-loop-at : goal.invariant-loop-at
invariant-loop-at g l = record {
  low : l.from ≤ l.at;
  high : l.at ≤ length l.bytes;
  none : NoRowIn (g.T.PlaceTest.passes l.strangers l.bytes) (length l.bytes) l.from l.at;
}

abbrev pub decreases-loop-at : goal.decreases-loop-at
decreases-loop-at g l = l.to - l.at
