use Rattle.std.proofs.Common.{take, Some}
use Rattle.count_histogram.specs.Counts.{AreCounts}
use Rattle.count_histogram.specs.Histogram.{items_of}
use Rattle.report_publish.proofs.histogram.counts_by.Given as goal

-- the features ahead of the index are counted
abbrev pub invariant-loop-item : goal.invariant-loop-item
invariant-loop-item l = AreCounts l.counts (items_of (Some l.rule) (take l.item-index l.items))
