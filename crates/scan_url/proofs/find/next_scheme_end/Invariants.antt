use Rattle.std.proofs.Common.{◌+◌, ◌-◌, ◌≤◌}
use Rattle.scan_url.specs.SchemeEnd.{NoSchemeEnd}
use Rattle.scan_url.specs.declared.find.TheConstants.{END_BYTES}
use Rattle.scan_url.proofs.find.next_scheme_end.Given as goal

-- no scheme ends ahead of the place
abbrev pub invariant-loop-at : goal.invariant-loop-at
invariant-loop-at l = record {
  low : l.next ≤ l.at + END_BYTES;
  high : l.at ≤ l.end;
  none : NoSchemeEnd l.sb.bytes.now l.next l.at;
}

abbrev pub decreases-loop-at : goal.decreases-loop-at
decreases-loop-at l = l.end - l.at
