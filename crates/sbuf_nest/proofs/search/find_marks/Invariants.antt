use Rattle.std.proofs.Common.{◌≡◌, ◌≤◌, ◌-◌, ◌++◌}
use Rattle.sbuf_nest.specs.Marks.{marks_of}
use Rattle.sbuf_nest.proofs.search.find_marks.Given as goal

-- the marks of the places ahead of `next` are appended
abbrev pub invariant-loop-next : goal.invariant-loop-next
invariant-loop-next g l = record {
  low : l.sb.own_from ≤ l.next;
  high : l.next ≤ l.sb.own_to;
  judge : g.S.Search.judge l.search ≡ g.S.Search.judge l.fn.search;
  found : l.found ≡ l.fn.found ++ marks_of (g.S.Search.judge l.fn.search) l.sb.bytes.now l.sb.own_from (l.next - l.sb.own_from);
}

abbrev pub decreases-loop-next : goal.decreases-loop-next
decreases-loop-next g l = l.sb.own_to - l.next
