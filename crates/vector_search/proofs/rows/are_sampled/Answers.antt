use Rattle.std.proofs.Common.{length, sym, ◌∙◌}
use Rattle.std.proofs.lemmas.Bool.{and_parts}
use Rattle.vector_search.proofs.Broken.{halves_bar}
use Rattle.vector_search.proofs.rows.are_sampled.Goals as goal

pub returns : goal.returns
returns g c = λ all.
    let both = and_parts _ _ all in
    halves_bar (g.T.PlaceTest.passes c.args.strangers.now c.args.bytes.now) (length c.args.bytes.now) c.args.at
    (sym c.passes_at.ensures ∙ both.0) (sym c.passes_at-2.ensures ∙ both.1)
