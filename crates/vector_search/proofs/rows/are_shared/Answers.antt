use Rattle.vector_search.proofs.Shared.{long_step_bars}
use Rattle.vector_search.proofs.rows.are_shared.Goals as goal

pub returns : goal.returns
returns g c =
    long_step_bars (g.T.PlaceTest.passes c.args.strangers.now c.args.bytes.now) _ c.args.at _ _ _ _
    c.mask-first.ensures c.mask-second.ensures c.mask-third.ensures c.mask-fourth.ensures
