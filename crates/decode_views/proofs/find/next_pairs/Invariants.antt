use Rattle.std.proofs.Common.{◌-◌, ◌≤◌}
use Rattle.sbuf_nest.specs.Marks.{NoneFrom}
use Rattle.decode_views.specs.Starts.{utf16_starts}
use Rattle.decode_views.proofs.find.next_pairs.Given as goal

-- no run begins at the places passed
abbrev pub invariant-loop-at : goal.invariant-loop-at
invariant-loop-at l = record {
  low : l.next ≤ l.at;
  high : l.at ≤ l.to;
  none : NoneFrom utf16_starts l.bytes l.next l.at;
}

abbrev pub decreases-loop-at : goal.decreases-loop-at
decreases-loop-at l = l.to - l.at
