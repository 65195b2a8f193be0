use Rattle.std.proofs.Common.{◌+◌, ◌<◌, ◌≤◌, length, arith, ◌∙◌}
use Rattle.std.proofs.lemmas.List.{length-set}
use Rattle.pattern_kit.proofs.Lengths.{from_rest}
use Rattle.pattern_kit.proofs.SearchSteps.{behind, ahead}
use Rattle.pattern_kit.proofs.search.fill_by_search.Goals as goal

pub loop-done-preserved : goal.loop-done-preserved
loop-done-preserved g c =
    let fits : c.loop-done.done + c.next_len-passed.result.0 ≤ length c.loop-done.lens = omega arith in
    record {
      within = rw length-set fits;
      same = c.next_len-passed.ensures.same ∙ c.loop-done.invariant.same;
      seeks = c.next_len-passed.ensures.seeks ∙ c.loop-done.invariant.seeks;
      behind = behind c.loop-done.lens c.loop-done.done c.next_len-passed.result.0 c.next_len-passed.result.1
          c.next_len-passed.ensures.moves fits _ c.loop-done.invariant.behind c.loop-done.invariant.ahead
          (λ k lt. let inside : k < length c.split_at.result.1.now = omega arith in
          from_rest _ _ c.loop-done.invariant.same _ _ _ _ k _ c.split_at.ensures.back (c.next_len-passed.ensures.none k lt inside))
          (λ k last. let inside : k < length c.split_at.result.1.now = omega arith in
          from_rest _ _ c.loop-done.invariant.same _ _ _ _ k _ c.split_at.ensures.back (c.next_len-passed.ensures.last k last inside));
      ahead = ahead c.loop-done.lens c.loop-done.done c.next_len-passed.result.0 c.next_len-passed.result.1
          c.next_len-passed.ensures.moves fits c.loop-done.invariant.ahead;
    }
