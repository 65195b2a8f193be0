-- What the end of the scan of an image that is made bears, ahead of its text.
use Rattle.std.proofs.Common.{◌≡◌, ℕ, List, [], Option, None, Result, Ok, Err, IfOk, IfErr, subst, sym, arith}
use Rattle.std.specs.Prelude.{IfSome, IsSomeAnd}
use Rattle.byte_kit.specs.Counts.{Rose}
use Rattle.host_source.specs.Source.{Slot, SourceNature}
use Rattle.pattern_kit.specs.Building.{Refusals}
use Rattle.scan_settings.specs.declared.words.Command.{Command}
use Rattle.triage_run.specs.declared.status.List.TheVariants.{Stop, Alert}
use Rattle.triage_run.specs.declared.status.List.{List as ListName}
use Rattle.triage_run.specs.declared.status.Status.{Status}
use Rattle.triage_run.specs.declared.words.ListNames.{ListNames}
use Rattle.triage_run.specs.declared.words.Generate.{Generate}
use Rattle.triage_run.specs.declared.words.Task.TheVariants.{Generate as GenerateTask}
use Rattle.triage_run.specs.Call.{Call, Scanned}
use Rattle.triage_run.specs.Lists.{lists_of, list_told, AreListed, ListFits}
use Rattle.triage_run.specs.Made.{FindsMade}
use Rattle.triage_run.specs.Patterns.{IsBuildEnd}
use Rattle.triage_run.specs.Sizes.{IsSize}
use Rattle.triage_run.specs.Text.{Counts}
use Rattle.triage_run.specs.Words.{scan_of, task_in, unbuilt_in}
use Rattle.triage_run.proofs.Ends.{made_scanned, build_refused}

-- there are no lists, so none is too long ..
pub none_long : (nature : SourceNature) (slots : ℕ → Option Slot) (names : ListNames) → names ≡ lists_of None →
    (list : ListName) → ListFits (list_told nature names) slots list
none_long nature slots names none Stop size measured = omega (arith, subst (λ (names : ListNames). IsSize (list_told nature names Stop) (slots 0) size) none measured)
none_long nature slots names none Alert size measured = omega (arith, subst (λ (names : ListNames). IsSize (list_told nature names Alert) (slots 1) size) none measured)

-- .. and each has its slot
pub none_due : (slots : ℕ → Option Slot) (names : ListNames) → names ≡ lists_of None → AreListed names slots
none_due slots names none Stop = subst (λ (names : ListNames). IfSome names.stop (λ name. IsSomeAnd (slots 0) (λ s. s.name ≡ name))) (sym none) tt
none_due slots names none Alert = subst (λ (names : ListNames). IfSome names.alert (λ name. IsSomeAnd (slots 1) (λ s. s.name ≡ name))) (sym none) tt

-- a pattern was refused, or the image was scanned, by readings that the patterns have
pub made_end : {R : Type 0} (call : Call R) (command : Command) (is : call.command ≡ Ok command) (built : unbuilt_in command ≡ None)
    (made : Generate) (makes : task_in command ≡ GenerateTask made)
    (fits : (list : ListName) → ListFits call.lists call.list_slots list) (listed : AreListed (lists_of (scan_of call.command)) call.list_slots) →
    (before now : Refusals) → call.kit_rose ≡ Rose before.count now.count → call.kit_last ≡ now.last →
    (scanned : Result Counts Status) → IfOk scanned (FindsMade call.reads call.matches made) → IfErr scanned (IsBuildEnd before now) →
    (readings : List R) × Scanned (record call { readings = readings }) scanned
made_end call command is built made makes fits listed before now rose last (Ok found) finds end =
    (finds.0, made_scanned (record call { readings = finds.0 }) command is built fits listed made makes found finds.1 finds.2)
made_end call command is built made makes fits listed before now rose last (Err refusal) finds end =
    ([], build_refused (record call { readings = [] }) command is built fits listed before now refusal end rose last)
