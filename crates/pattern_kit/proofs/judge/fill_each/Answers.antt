use Rattle.std.proofs.Common.{◌<◌, ◌≢◌, length, arith, ap, ◌∙◌, get_or-set_other, get_or-set_same, below_more}
use Rattle.pattern_kit.specs.Matching.{length_at}
use Rattle.pattern_kit.proofs.Lengths.{from_front}
use Rattle.pattern_kit.proofs.judge.fill_each.Goals as goal

pub loop-at-preserved : goal.loop-at-preserved
loop-at-preserved g c = record {
  same = c.front_len.ensures.same ∙ c.loop-at.invariant.same;
  done = below_more _ _
      (λ k h. let ne : k ≢ c.loop-at.at = omega arith in rw get_or-set_other (c.loop-at.invariant.done k h))
      (let lt : c.loop-at.at < length c.loop-at.lens = omega arith in rw get_or-set_same
      (c.front_len.ensures.length ∙ ap (λ f. length_at f c.split_at.result.1.now 0) c.loop-at.invariant.same
      ∙ from_front _ _ _ _ c.split_at.ensures.back));
}
