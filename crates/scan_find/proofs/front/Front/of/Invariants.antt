use Rattle.std.proofs.Common.{ℕ, ◌<◌, List}
use Rattle.std.specs.Prelude.{slice_index_or}
use Rattle.scan_find.specs.Front.{LetsKeyword}
use Rattle.scan_find.proofs.front.Front.of.Given as goal

-- the keywords passed pass the test
abbrev pub invariant-loop-k : goal.invariant-loop-k
invariant-loop-k l = (k : ℕ) (d : List ℕ) → k < l.k → LetsKeyword l.front (slice_index_or l.keywords k d)
