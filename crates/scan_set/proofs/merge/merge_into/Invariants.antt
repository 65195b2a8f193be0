use Rattle.std.proofs.Common.{◌≡◌, ◌++◌, map, drop}
use Rattle.scan_set.specs.Events.{merged_events}
use Rattle.scan_set.proofs.merge.merge_into.Given as goal

-- what is appended, and the merge of what is left, are the whole merge
abbrev pub invariant-loop-event : goal.invariant-loop-event
invariant-loop-event g l =
    l.into.items ++ merged_events (drop l.event-index l.events) (map g.L.Listed.event l.left) ≡ l.fn.into.items ++ merged_events l.events (map g.L.Listed.event l.found)
