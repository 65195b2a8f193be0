use Rattle.std.proofs.Common.{◌-◌, ◌≤◌}
use Rattle.vector_search.specs.Places.{NoneIn}
use Rattle.scan_net.specs.Filter.{has_ipv4}
use Rattle.scan_net.proofs.find.next_header.Given as goal

-- no header begins ahead of the place
abbrev pub invariant-loop-at : goal.invariant-loop-at
invariant-loop-at l = record {
  low : l.from ≤ l.at;
  high : l.at ≤ l.to;
  none : NoneIn (has_ipv4 l.bytes) l.from l.at;
}

abbrev pub decreases-loop-at : goal.decreases-loop-at
decreases-loop-at l = l.to - l.at
