use Rattle.std.proofs.Common.{◌≡◌, map, take}
use Rattle.triage_run.specs.Patterns.{AreRead}
use Rattle.triage_run.proofs.patterns.build_matchers.Given as goal

-- the patterns passed are read, and none was refused
abbrev pub invariant-loop-index : goal.invariant-loop-index
invariant-loop-index g l = record {
  same : g.K.Kit.may_build l.kit ≡ g.K.Kit.may_build l.fn.kit;
  sure : g.K.Kit.refusals l.kit ≡ g.K.Kit.refusals l.fn.kit;
  read : AreRead g.K.M.Matcher.reads (take l.index l.patterns) (map g.K.M.Matcher.reading l.matchers.items);
}
