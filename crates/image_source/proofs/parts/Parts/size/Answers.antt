use Rattle.std.proofs.Common.{sym}
use Rattle.image_source.proofs.PartLemmas.{inside_small, inside_told}
use Rattle.image_source.proofs.parts.Parts.size.Goals as goal

pub returns-clause-told : goal.returns-clause-told
returns-clause-told g c = rw (sym c.self.view_is) (inside_told _ _ _ c.self.invariant.all c.self.invariant.sum)

pub returns-clause-small : goal.returns-clause-small
returns-clause-small g c = rw c.self.invariant.sum (inside_small _ _ c.self.invariant.all c.self.invariant.most)
