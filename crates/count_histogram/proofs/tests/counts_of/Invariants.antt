use Rattle.std.proofs.Common.{ℕ, ◌≤◌, List, length}
use Rattle.count_histogram.specs.Counts.{AreCounts}
use Rattle.count_histogram.proofs.tests.counts_of.Given as goal

abbrev pub invariant-loop-feature : goal.invariant-loop-feature
invariant-loop-feature l = (items : List (List ℕ)) × AreCounts l.counts items × (length items ≤ l.feature-index)
