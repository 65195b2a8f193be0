use Rattle.std.proofs.Common.{◌<◌, arith}
use Rattle.page_split.proofs.Counts.{begin_within}
use Rattle.page_split.proofs.pages.Pages.count.Goals as goal

pub returns-clause-below : goal.returns-clause-below
returns-clause-below c = λ page lt. (begin_within c.args.self.now.size c.args.self.now.page page (omega (arith, c.args.self.now.page_least))).0 (rw c.div_ceil.ensures at lt)

pub returns-clause-all : goal.returns-clause-all
returns-clause-all c = λ page begins. rw c.div_ceil.ensures ((begin_within c.args.self.now.size c.args.self.now.page page (omega (arith, c.args.self.now.page_least))).1 begins)
