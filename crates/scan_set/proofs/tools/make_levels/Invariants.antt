use Rattle.std.proofs.Common.{◌≡◌, length}
use Rattle.scan_set.proofs.tools.make_levels.Given as goal

-- a level for each number passed
abbrev pub invariant-loop-depth : goal.invariant-loop-depth
invariant-loop-depth l = length l.levels.items ≡ l.depth
