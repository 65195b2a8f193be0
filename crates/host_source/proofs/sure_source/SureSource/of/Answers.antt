use Rattle.host_source.proofs.SlotLemmas.{get_or_blank}
use Rattle.std.proofs.Common.{false, refl}
use Rattle.host_source.proofs.sure_source.SureSource.of.Goals as goal

pub returns-clause-detached : goal.returns-clause-detached
returns-clause-detached c = λ slot. rw (get_or_blank 64 slot false) refl
