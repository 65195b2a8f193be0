use Rattle.std.proofs.Common.{◌≡◌, ◌-◌, ◌++◌}
use Rattle.sbuf_nest.specs.Marks.{marks_of}
use Rattle.sbuf_nest.proofs.search.add_places.Given as goal

-- the marks of the places passed are appended
abbrev pub invariant-loop-place : goal.invariant-loop-place
invariant-loop-place g l = record {
  judge : g.S.Search.judge l.search ≡ g.S.Search.judge l.fn.search;
  found : l.found ≡ l.fn.found ++ marks_of (g.S.Search.judge l.fn.search) l.sb.bytes.now l.fn.places.from (l.place - l.fn.places.from);
}
