use Rattle.std.proofs.Common.{ℕ, ◌<◌, List}
use Rattle.std.specs.Prelude.{slice_index_or}
use Rattle.scan_find.specs.Marks.{IsText}
use Rattle.scan_find.proofs.given.are_keywords.Given as goal

-- the keywords passed have 1 to 256 bytes
abbrev pub invariant-loop-k : goal.invariant-loop-k
invariant-loop-k l = (k : ℕ) (d : List ℕ) → k < l.k → IsText (slice_index_or l.keywords k d)
