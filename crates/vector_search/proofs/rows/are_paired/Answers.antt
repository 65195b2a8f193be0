use Rattle.vector_search.proofs.Shared.{short_step_bars}
use Rattle.vector_search.proofs.rows.are_paired.Goals as goal

pub returns : goal.returns
returns g c =
    short_step_bars (g.T.PlaceTest.passes c.args.strangers.now c.args.bytes.now) _ c.args.at _ _ c.mask-first.ensures c.mask-second.ensures
