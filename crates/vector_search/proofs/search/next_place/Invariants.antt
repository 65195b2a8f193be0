use Rattle.std.proofs.Common.{◌-◌, ◌≤◌}
use Rattle.vector_search.specs.Places.{NoneIn}
use Rattle.vector_search.proofs.search.next_place.Given as goal

-- no place passed by passes the test

abbrev pub invariant-loop-wide : goal.invariant-loop-wide
invariant-loop-wide g l = record {
  low : l.from ≤ l.wide;
  high : l.wide ≤ l.to;
  none : NoneIn (g.T.PlaceTest.passes l.test l.bytes) l.from l.wide;
}

abbrev pub decreases-loop-wide : goal.decreases-loop-wide
decreases-loop-wide g l = l.to - l.wide

abbrev pub invariant-loop-at : goal.invariant-loop-at
invariant-loop-at g l = record {
  low : l.from ≤ l.at;
  high : l.at ≤ l.to;
  none : NoneIn (g.T.PlaceTest.passes l.test l.bytes) l.from l.at;
}

abbrev pub decreases-loop-at : goal.decreases-loop-at
decreases-loop-at g l = l.to - l.at

abbrev pub invariant-loop-place : goal.invariant-loop-place
invariant-loop-place g l = NoneIn (g.T.PlaceTest.passes l.test l.bytes) l.from l.place
