use Rattle.vector_search.proofs.Broken.{step_bars}
use Rattle.vector_search.proofs.rows.are_broken.Goals as goal

pub returns-then-are_sampled : goal.returns-then-are_sampled
returns-then-are_sampled g c = λ _. c.are_sampled.ensures c.if-are_sampled.true

pub returns : goal.returns
returns g c =
    step_bars (g.T.PlaceTest.passes c.args.strangers.now c.args.bytes.now) _ c.args.at _ _ _ _
    c.mask-first.ensures c.mask-second.ensures c.mask-third.ensures c.mask-fourth.ensures
