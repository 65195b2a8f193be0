use Rattle.std.proofs.Common.{◌≡◌, ◌≤◌, ◌-◌, ◌++◌, map}
use Rattle.sbuf_nest.specs.Marks.{marks_of}
use Rattle.scan_find.specs.Marks.{given_marks}
use Rattle.scan_find.proofs.find.search_pieces.Given as goal

-- the marks of the places ahead of `next` are appended
abbrev pub invariant-loop-next : goal.invariant-loop-next
invariant-loop-next g l = record {
  low : l.sb.own_from ≤ l.next;
  high : l.next ≤ l.sb.own_to;
  same : map g.M.Matcher.reading l.matchers ≡ map g.M.Matcher.reading l.fn.matchers;
  found : l.found ≡ l.fn.found ++ marks_of (given_marks l.keywords.items.now (map g.M.Matcher.matches (map g.M.Matcher.reading l.fn.matchers))) l.sb.bytes.now
      l.sb.own_from (l.next - l.sb.own_from);
}

abbrev pub decreases-loop-next : goal.decreases-loop-next
decreases-loop-next g l = l.sb.own_to - l.next
