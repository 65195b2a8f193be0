use Rattle.std.proofs.Common.{◌≡◌, ◌+◌, ◌-◌, ◌*◌, ◌≤◌, ◌++◌, map, take, length}
use Rattle.std.specs.List.{flat_map}
use Rattle.scan_set.specs.Events.{event_features}
use Rattle.scan_set.specs.Here.{owned}
use Rattle.scan_set.proofs.nest.+nest.Given as goal

-- from a level down to the text that leads to the next one
abbrev pub decreases-scan_level : goal.decreases-scan_level
decreases-scan_level g l = 6 * l.left + 5

abbrev pub decreases-scan_block : goal.decreases-scan_block
decreases-scan_block g l = 6 * l.left + 4

abbrev pub decreases-add_event : goal.decreases-add_event
decreases-add_event g l = 6 * l.left + 3

abbrev pub decreases-add_sign : goal.decreases-add_sign
decreases-add_sign g l = 6 * l.left + 2

abbrev pub decreases-add_text : goal.decreases-add_text
decreases-add_text g l = 6 * l.left + 1

abbrev pub decreases-scan_value : goal.decreases-scan_value
decreases-scan_value g l = 6 * l.left

-- the features of the events passed are made, and the way back is whole
abbrev pub invariant-scan_block-loop-event : goal.invariant-scan_block-loop-event
invariant-scan_block-loop-event g l = record {
  same : map g.M.Matcher.reading l.run.matchers.items ≡ map g.M.Matcher.reading l.fn.run.matchers.items;
  limit : l.run.trail.limit ≡ l.fn.run.trail.limit;
  trail : l.run.trail.turns ≡ l.fn.run.trail.turns;
  out : l.run.out.items ≡ l.fn.run.out.items ++ flat_map (event_features (map g.M.Matcher.matches (map g.M.Matcher.reading l.fn.run.matchers.items)) l.plan l.left l.fn.run.trail.turns l.block.bytes.now l.block.base) (take l.event-index l.events);
}

-- the features of the places ahead of `next` are made
abbrev pub invariant-scan_level-loop-next : goal.invariant-scan_level-loop-next
invariant-scan_level-loop-next g l = record {
  low : l.sb.own_from ≤ l.next;
  high : l.next ≤ l.sb.own_to;
  same : map g.M.Matcher.reading l.run.matchers.items ≡ map g.M.Matcher.reading l.fn.run.matchers.items;
  limit : l.run.trail.limit ≡ l.fn.run.trail.limit;
  trail : l.run.trail.turns ≡ l.fn.run.trail.turns;
  out : l.run.out.items ≡ l.fn.run.out.items ++ owned (map g.M.Matcher.matches (map g.M.Matcher.reading l.fn.run.matchers.items)) l.plan l.left l.fn.run.trail.turns l.sb.bytes.now l.sb.base l.sb.own_from (l.next - l.sb.own_from);
}

abbrev pub decreases-scan_level-loop-next : goal.decreases-scan_level-loop-next
decreases-scan_level-loop-next g l = l.sb.own_to - l.next
