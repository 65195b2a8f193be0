use Rattle.std.proofs.Common.{Option, List, ℕ, sym, subst}
use Rattle.std.specs.Prelude.{IfSome, IsTrue}
use Rattle.std.specs.Option.{option_copied}
use Rattle.host_source.specs.Source.{SourceNature}
use Rattle.triage_run.specs.declared.status.List.TheVariants.{Stop, Alert}
use Rattle.triage_run.proofs.lists.read_lists.Goals as goal

pub read_list-requires-clause-asked : goal.read_list-requires-clause-asked
read_list-requires-clause-asked g c =
    subst (λ (name : Option (List ℕ)). IfSome name (λ name. IsTrue ((g.L.Source.nature c.args.source.now).may_attach name))) (sym c.as_ref.ensures.value)
    (c.requires.ready.asked Stop)

pub read_list-requires-2-clause-asked : goal.read_list-requires-2-clause-asked
read_list-requires-2-clause-asked g c =
    subst (λ (nature : SourceNature). IfSome (option_copied c.as_ref-2.result) (λ name. IsTrue (nature.may_attach name))) (sym c.read_list.ensures.source.same)
    (subst (λ (name : Option (List ℕ)). IfSome name (λ name. IsTrue ((g.L.Source.nature c.args.source.now).may_attach name))) (sym c.as_ref-2.ensures.value)
    (c.requires.ready.asked Alert))
