-- From the end of a scan to the end of its call, which puts a text behind it: what the one bears, the other bears.
use Rattle.std.proofs.Common.{◌≡◌, inl, inr, sym, ap, subst, arith, ℕ, ◌<◌, List, Option, Some, None, Result, Ok, Err, IfErr, IfOk}
use Rattle.std.specs.Prelude.{IfSome, option_map}
use Rattle.triage_run.specs.declared.status.Status.{Status}
use Rattle.triage_run.specs.declared.status.Status.TheVariants.{Done, Usage, ListTooLong, TooManyPages, OutFault, NoMemory, NotYet}
use Rattle.triage_run.specs.declared.status.List.{List as ListName}
use Rattle.triage_run.specs.declared.status.List.TheVariants.{Stop, Alert}
use Rattle.triage_run.specs.declared.status.Unbuilt.{Unbuilt}
use Rattle.triage_run.specs.Case.{Case}
use Rattle.triage_run.specs.Call.{Call, case_of, found_text, IsCause, IsExact, HasLists, HasReadings, HasParts, HasFound}
use Rattle.triage_run.proofs.Grown.{grown, cause_grown}
use Rattle.triage_run.specs.Status.{step_of, scanned_as, EndsAs, IsOrEarlier, IsBehind, IsRefusal}
use Rattle.triage_run.specs.Steps.{any, alert_size, build, attach, end}
use Rattle.triage_run.specs.Words.{unbuilt_of}
use Rattle.scan_settings.specs.declared.fault.BadWord.{BadWord}
use Rattle.scan_settings.specs.declared.words.Command.{Command}
use Rattle.report_publish.specs.declared.publish.TheConstants.{FEATURE_FILES}
use Rattle.triage_run.specs.Text.{Counts, counts_of, counts_text, counts_told, line_of, text_of, IsPut, IsPutInPart}

-- what holds of the status of a scan, of want of memory, and of a sink that failed behind a scan that was done
after : (P : Status → Type 0) (rose : Type 0) (scanned status : Status) → EndsAs rose scanned status →
    P scanned → P NoMemory → (scanned ≡ Done → rose → P OutFault) → P status
after P rose scanned status (inl same) here wants failed = subst P (sym same) here
after P rose scanned status (inr (done, inl is)) here wants failed = subst P (sym is) wants
after P rose scanned status (inr (done, inr (is, risen))) here wants failed = subst P (sym is) (failed done risen)

-- a call that ended behind a step had its scan end there
behind_after : (rose : Type 0) (step : ℕ) (scanned status : Status) → EndsAs rose scanned status →
    IsBehind step status → IsBehind step scanned
behind_after rose step scanned status ends =
    after (λ s. IsBehind step s → IsBehind step scanned) rose scanned status ends (λ behind. behind)
    (λ behind. absurd (omega (arith, behind))) (λ done risen behind. rw done (omega (arith, behind)))

-- a refusal that hid those of later steps hides them still
or_earlier_after : (rose : Type 0) (said scanned status : Status) → any < step_of said → step_of said < end → EndsAs rose scanned status →
    IsOrEarlier said scanned → IsOrEarlier said status
or_earlier_after rose said scanned status some early ends hidden =
    after (λ s. IsOrEarlier said s) rose scanned status ends hidden (inr some) (λ done risen. absurd (not_done (subst (IsOrEarlier said) done hidden)))
  where
    not_done : IsOrEarlier said Done → ⊥
    not_done (inl is) = omega (arith, early, ap step_of is)
    not_done (inr later) = omega (arith, early, later)

-- ---- the answers

module _ {R : Type 0} (call : Call R) (rose : Type 0) (takes : List ℕ → Type 0) where
  abbrev printed : Call R
  printed = grown call call.source_rose rose takes

  pub cause_after : (call.sink_rose → rose) → (scanned status : Status) → EndsAs rose scanned status → IsCause call scanned → IsCause printed status
  cause_after risen scanned status ends cause =
      after (IsCause printed) rose scanned status ends (cause_grown call call.source_rose rose takes (λ rose. rose) risen scanned cause) tt
      (λ done failed. let is_done = subst (IsCause call) done cause in (failed, is_done.0, is_done.1))

  pub exact_after : (scanned status : Status) → EndsAs rose scanned status → IsExact call scanned → IsExact printed status
  exact_after scanned status ends exact = record {
    usage = usage_after call.command exact.usage;
    form = form_after (unbuilt_of call.command) exact.form;
    list = λ list bytes long. list_after list bytes (exact.list list bytes long);
    pages = λ pages many. or_earlier_after rose (TooManyPages pages) scanned status (omega arith) (omega arith) ends (exact.pages pages many);
  }
    where
      usage_after : (command : Result Command BadWord) → IfErr command (λ bad. IsOrEarlier (Usage bad.word bad.why) scanned) →
          IfErr command (λ bad. IsOrEarlier (Usage bad.word bad.why) status)
      usage_after (Ok command) hidden = tt
      usage_after (Err bad) hidden = or_earlier_after rose (Usage bad.word bad.why) scanned status (omega arith) (omega arith) ends hidden

      form_after : (form : Option Unbuilt) → IfSome form (λ what. IsOrEarlier (NotYet what) scanned) → IfSome form (λ what. IsOrEarlier (NotYet what) status)
      form_after None hidden = tt
      form_after (Some what) hidden = or_earlier_after rose (NotYet what) scanned status (omega arith) (omega arith) ends hidden

      list_after : (list : ListName) (bytes : ℕ) → IsOrEarlier (ListTooLong list bytes) scanned → IsOrEarlier (ListTooLong list bytes) status
      list_after Stop bytes hidden = or_earlier_after rose (ListTooLong Stop bytes) scanned status (omega arith) (omega arith) ends hidden
      list_after Alert bytes hidden = or_earlier_after rose (ListTooLong Alert bytes) scanned status (omega arith) (omega arith) ends hidden

  pub lists_after : (scanned status : Status) → EndsAs rose scanned status → HasLists call scanned → HasLists printed status
  lists_after scanned status ends lists = λ behind. lists (behind_after rose alert_size scanned status ends behind)

  pub readings_after : (scanned status : Status) → EndsAs rose scanned status → HasReadings call scanned → HasReadings printed status
  readings_after scanned status ends readings = λ behind. readings (behind_after rose build scanned status ends behind)

  pub parts_after : (scanned status : Status) → EndsAs rose scanned status → HasParts call scanned → HasParts printed status
  parts_after scanned status ends parts = λ behind. parts (behind_after rose attach scanned status ends behind)

-- ---- the text

-- a scan that was refused does not end as one that was done
pub not_done : (rose : Type 0) (refusal status : Status) → IsRefusal refusal → EndsAs rose refusal status → IsRefusal status
not_done rose refusal status refused ends =
    after IsRefusal rose refusal status ends refused tt (λ done risen. absurd (subst IsRefusal done refused))

-- the text of what was found is that of the case, where this is told
pub text_after : {R : Type 0} (call : Call R) (rose : Type 0) (takes : List ℕ → Type 0) (scanned : Result Counts Status) (status : Status) →
    IfErr scanned IsRefusal → EndsAs rose (scanned_as scanned) status → HasFound call scanned →
    IfSome (text_of (counts_told scanned) status) (IsPut takes rose status) →
    IfSome (text_of (option_map (found_text call) (case_of call)) status) (IsPut takes rose status)
text_after {R = R} call rose takes scanned status refused ends found put = by_case (case_of call) scanned status refused ends found put
  where
    by_case : (told : Option (Case R)) (scanned : Result Counts Status) (status : Status) →
        IfErr scanned IsRefusal → EndsAs rose (scanned_as scanned) status →
        IfOk scanned (λ found. IfSome told (λ c. found ≡ counts_of call.matches FEATURE_FILES c)) →
        IfSome (text_of (counts_told scanned) status) (IsPut takes rose status) →
        IfSome (text_of (option_map (found_text call) told) status) (IsPut takes rose status)
    by_case None (Ok found) Done refused ends is put = tt
    by_case None (Ok found) OutFault refused ends is put = tt
    by_case (Some c) (Ok found) Done refused ends is put = subst (λ f. IsPut takes rose Done (counts_text f)) is put
    by_case (Some c) (Ok found) OutFault refused ends is put = subst (λ f. IsPut takes rose OutFault (counts_text f)) is put
    by_case told (Err refusal) Done refused ends is put = absurd (not_done rose refusal Done refused ends)
    by_case told (Err refusal) OutFault refused ends is put = absurd (not_done rose refusal OutFault refused ends)
    by_case told scanned _ refused ends is put = put

-- the line of a refusal is its text
pub line_put : (takes : List ℕ → Type 0) (rose : Type 0) (refusal : Status) → IsRefusal refusal → IsPutInPart takes rose (line_of refusal) →
    IfSome (text_of None refusal) (IsPut takes rose refusal)
line_put takes rose Done refused put = absurd refused
line_put takes rose OutFault refused put = absurd refused
line_put takes rose _ refused put = put
