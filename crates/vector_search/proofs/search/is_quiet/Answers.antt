use Rattle.vector_search.proofs.Masks.{quiet}
use Rattle.vector_search.proofs.search.is_quiet.Goals as goal

pub returns : goal.returns
returns g c =
    quiet (g.T.PlaceTest.passes c.args.test.now c.args.bytes.now) c.args.at _ _ _ _
    c.mask.ensures c.mask-2.ensures c.mask-3.ensures c.mask-4.ensures
