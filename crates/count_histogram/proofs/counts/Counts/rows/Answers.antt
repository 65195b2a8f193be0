use Rattle.std.proofs.Common.{rules, ◌≡◌, subst, List}
use Rattle.std.specs.Ordering.{is_lt}
use Rattle.std.specs.List.Sorted.{IsPermutation}
use Rattle.std.proofs.lemmas.List.Sorted.{answers_always}
use Rattle.count_histogram.specs.declared.row.Row.{Row}
use Rattle.count_histogram.proofs.Ahead.{order, ahead}
use Rattle.count_histogram.proofs.Placed.{is_order}
use Rattle.count_histogram.proofs.Distinct.{sorted_rows}
use Rattle.count_histogram.proofs.counts.Counts.rows.Goals as goal

pub returns : goal.returns
returns c =
    let sorted = c.sort_unstable_by.ensures.sorted (λ a b. is_lt (order a b)) is_order (answers_always _ (λ a r. is_lt r ≡ is_lt (order a.0.now a.1.0.now)) tt (λ f a r g called. search (rules, ahead a.0.now a.1.0.now))) in
    let moved = c.sort_unstable_by.ensures.permutation in
    sorted_rows c.args.self.now c.sort_unstable_by.new.self.items c.in_ok-rows.ensures.tally
    (subst (λ (rows : List Row). IsPermutation rows c.sort_unstable_by.new.self.items) c.in_ok-rows.ensures.same moved) sorted
