use Rattle.std.proofs.Common.{◌≡◌, ◌++◌}
use Rattle.count_histogram.specs.Counts.{rows_kept}
use Rattle.count_histogram.proofs.counts.Counts.copied.Given as goal

abbrev pub invariant-loop-item : goal.invariant-loop-item
invariant-loop-item l = l.rows.items ++ rows_kept l.item-iterator ≡ rows_kept l.self-inside.counts.entries
