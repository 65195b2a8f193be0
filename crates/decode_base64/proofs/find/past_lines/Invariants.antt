use Rattle.std.proofs.Common.{◌-◌, ◌≤◌}
use Rattle.sbuf_nest.specs.Marks.{NoneFrom}
use Rattle.decode_base64.specs.Starts.{base64_starts}
use Rattle.decode_base64.proofs.find.past_lines.Given as goal

-- no text begins ahead of the place
abbrev pub invariant-loop-at : goal.invariant-loop-at
invariant-loop-at l = record {
  low : l.next ≤ l.at;
  high : l.at ≤ l.sb.own_to;
  none : NoneFrom base64_starts l.sb.bytes.now l.next l.at;
}

abbrev pub decreases-loop-at : goal.decreases-loop-at
decreases-loop-at l = l.sb.own_to - l.at
