use Rattle.std.proofs.Common.{◌≡◌, ◌++◌, length}
use Rattle.stop_lists.proofs.Lines.{lines_entries}
use Rattle.stop_lists.proofs.table.Table.read.Given as goal

-- the entries so far, and those of the lines that are left, are those of all
abbrev pub invariant-loop-line : goal.invariant-loop-line
invariant-loop-line l = l.entries ++ lines_entries l.rest ≡ lines_entries l.list

abbrev pub decreases-loop-line : goal.decreases-loop-line
decreases-loop-line l = length l.rest
