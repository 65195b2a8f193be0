use Rattle.image_source.proofs.HeldLemmas.{slid}
use Rattle.image_source.proofs.held.slide.Goals as goal

pub returns-clause-moved : goal.returns-clause-moved
returns-clause-moved c = rw c.copy_within.ensures.after (slid c.args.room.now c.args.gone c.args.count c.requires.ordered c.requires.within)
