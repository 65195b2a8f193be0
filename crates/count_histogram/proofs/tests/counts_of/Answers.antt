use Rattle.std.proofs.Common.{arith, [], ◌∷◌, ◌++◌}
use Rattle.std.proofs.lemmas.List.{length_push}
use Rattle.count_histogram.proofs.tests.counts_of.Goals as goal

pub loop-feature-preserved : goal.loop-feature-preserved
loop-feature-preserved c =
    let before = c.loop-feature.invariant in
    let item = c.as_slice.result.now in
    let long = length_push before.0 item in
    (before.0 ++ item ∷ [], c.in_ok-add.ensures.added before.0 before.1, omega arith)
