use Rattle.std.proofs.Common.{◌∙◌, not, arith}
use Rattle.vector_search.proofs.Lanes.{bits_of_places}
use Rattle.sbuf_nest.proofs.runs.StrangersPlaceTest.mask.Goals as goal

pub returns : goal.returns
returns g c =
    c.strangers.ensures ∙ bits_of_places (λ byte. not (g.C.ByteClass.holds byte)) c.args.bytes.now c.args.at (omega (arith, c.requires))
