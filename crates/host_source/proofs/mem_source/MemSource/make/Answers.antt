use Rattle.std.proofs.Common.{None, sym, ◌∙◌}
use Rattle.std.proofs.lemmas.Option.{none-some}
use Rattle.host_source.proofs.SlotLemmas.{get_or_blank}
use Rattle.host_source.proofs.mem_source.MemSource.make.Goals as goal

pub invariant_of-result-clause-inside : goal.invariant_of-result-clause-inside
invariant_of-result-clause-inside c = λ slot place is. absurd (none-some place (sym (get_or_blank 64 slot None) ∙ is))
