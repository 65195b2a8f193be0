use Rattle.std.proofs.Common.{◌-◌, ◌≤◌}
use Rattle.scan_find.specs.Hits.{HitsMore, HitsKeywords}
use Rattle.scan_find.proofs.hits.hit_keywords.Given as goal

-- the places ahead of `next` are hit
abbrev pub invariant-loop-next : goal.invariant-loop-next
invariant-loop-next l = record {
  low : l.first ≤ l.next;
  high : l.next ≤ l.end;
  kept : HitsMore l.fn.hits l.hits;
  hit : HitsKeywords l.keywords.items.now l.bytes l.first (l.next - l.first) l.hits;
}

abbrev pub decreases-loop-next : goal.decreases-loop-next
decreases-loop-next l = l.end - l.next
