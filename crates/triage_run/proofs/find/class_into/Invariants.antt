use Rattle.std.proofs.Common.{◌≡◌, ◌++◌, map}
use Rattle.triage_run.specs.Lists.{classed_under}
use Rattle.triage_run.proofs.find.class_into.Given as goal

-- the features passed are appended
abbrev pub invariant-loop-item : goal.invariant-loop-item
invariant-loop-item l = l.items.items ≡ l.fn.items.items ++ map (classed_under l.lists) l.yielded
