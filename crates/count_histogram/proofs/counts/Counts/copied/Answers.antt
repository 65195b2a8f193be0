use Rattle.std.proofs.Common.{subst, List}
use Rattle.count_histogram.specs.declared.row.Row.{Row}
use Rattle.count_histogram.specs.Counts.{IsTally}
use Rattle.count_histogram.proofs.Kept.{tally}
use Rattle.count_histogram.proofs.counts.Counts.copied.Goals as goal

pub returns-clause-tally : goal.returns-clause-tally
returns-clause-tally c = subst (λ (rows : List Row). IsTally rows) c.self.view_is (tally c.self.inside.counts.entries c.len.ensures.unique c.self.invariant)
