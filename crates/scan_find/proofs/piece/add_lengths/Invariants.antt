use Rattle.std.proofs.Common.{◌≡◌, ◌++◌, take}
use Rattle.scan_find.specs.Find.{of_some_length}
use Rattle.scan_find.specs.Lengths.{length_of}
use Rattle.scan_find.specs.Marks.{numbered_marks}
use Rattle.scan_find.specs.declared.TheConstants.{KEYWORDS_MOST}
use Rattle.scan_find.specs.declared.lengths.Row.{Row}
use Rattle.scan_find.proofs.piece.add_lengths.Given as goal

-- the marks of the rows passed are appended
abbrev pub invariant-loop-k : goal.invariant-loop-k
invariant-loop-k l = l.found ≡ l.fn.found ++ numbered_marks (λ (row : Row). of_some_length (length_of row l.number)) KEYWORDS_MOST (take l.k l.rows) l.place
