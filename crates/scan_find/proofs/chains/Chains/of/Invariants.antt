use Rattle.std.proofs.Common.{◌-◌, length}
use Rattle.scan_find.proofs.ChainSteps.{AreLast}
use Rattle.scan_find.proofs.chains.Chains.of.Given as goal

-- the last keywords are chained
abbrev pub invariant-loop-behind : goal.invariant-loop-behind
invariant-loop-behind l = AreLast l.keywords l.heads l.nexts (length l.keywords - l.behind)
