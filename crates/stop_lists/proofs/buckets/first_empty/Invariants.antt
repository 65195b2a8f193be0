use Rattle.stop_lists.specs.Buckets.{AreTaken}
use Rattle.stop_lists.proofs.buckets.first_empty.Given as goal

abbrev pub invariant-loop-at : goal.invariant-loop-at
invariant-loop-at l = AreTaken l.slots l.home l.at
