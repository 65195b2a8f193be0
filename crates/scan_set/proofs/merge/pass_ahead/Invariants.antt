use Rattle.std.proofs.Common.{◌≡◌, ◌++◌, map, length}
use Rattle.scan_set.specs.Events.{event_place}
use Rattle.scan_set.specs.Merged.{ahead, behind}
use Rattle.scan_set.proofs.merge.pass_ahead.Given as goal

-- the events of the items passed are appended, and stand ahead of the place
abbrev pub invariant-loop-first : goal.invariant-loop-first
invariant-loop-first g l = record {
  ahead : l.into.items ++ ahead event_place l.place (map g.L.Listed.event l.left) ≡ l.fn.into.items ++ ahead event_place l.place (map g.L.Listed.event l.found);
  behind : behind event_place l.place (map g.L.Listed.event l.left) ≡ behind event_place l.place (map g.L.Listed.event l.found);
}

abbrev pub decreases-loop-first : goal.decreases-loop-first
decreases-loop-first g l = length l.left
