-- From one source to the list whose first it is: what one source and its disk bear, all of them bear.
use Rattle.std.proofs.Common.{◌≡◌, inl, inr, ⊎_elim, ℕ, suc, ◌<◌, List, [], ◌∷◌, length, refl, subst, arith, sym, ap, ◌∙◌, Option, Some, None, Result, Ok, Err, IfErr, OnOk}
use Rattle.std.specs.List.{All, AllByRecursion}
use Rattle.std.specs.Prelude.{slice_index_or, insert, remove, is_ok, if◌then◌else◌, IsOkAnd, IsSomeAnd, IfSome}
use Rattle.host_source.specs.Source.{SourceNature, Slot}
use Rattle.host_disk.specs.Files.{Files}
use Rattle.host_disk.specs.Disk.{DiskNature}
use Rattle.pattern_kit.specs.Building.{Refusals}
use Rattle.triage_run.specs.declared.status.Status.{Status}
use Rattle.triage_run.specs.declared.status.Status.TheVariants.{Done, Usage, ListTooLong, ReadFault, PatternRefused, TooManyPages, DiskFault, OutFault, NoMemory, NotYet}
use Rattle.triage_run.specs.declared.status.ReadPlace.TheVariants.{StopList, AlertList, Image, Page}
use Rattle.triage_run.specs.declared.status.Unbuilt.{Unbuilt}
use Rattle.scan_settings.specs.declared.fault.BadWord.{BadWord}
use Rattle.scan_settings.specs.declared.words.Command.{Command}
use Rattle.triage_run.specs.Call.{Call, call_of, and_lists, and_readings, and_kit, and_sink, IsBuilt, IsCause, IsExact, IsComplete, HasLists, HasReadings, HasParts, IsPrinted, Answers, image_seen}
use Rattle.triage_run.proofs.Grown.{cause_grown, exact_grown}
use Rattle.triage_run.specs.Sources.{Pairwise}
use Rattle.triage_run.specs.Status.{IfDone, IsRefusal, EndsAs, scanned_as}
use Rattle.triage_run.specs.Image.{AreTooMany, HasFewPages}
use Rattle.triage_run.specs.Words.{scan_of, unbuilt_in, unbuilt_of}
use Rattle.triage_run.specs.declared.words.Scan.{Scan}
use Rattle.triage_run.proofs.AfterText.{not_done}

all_same : {A : Type 0} (R : A → A → Type 0) → ((x : A) → R x x) → (xs : List A) → Pairwise R xs xs
all_same R same [] = tt
all_same R same (x ∷ xs) = (same x, all_same R same xs)

-- a list of which the first was taken out, and another one put there
abbrev pub with_first : {A : Type 0} → List A → A → List A
with_first xs y = insert (remove xs 0) 0 y

pub put_back : {A U E : Type 0} (xs left back : List A) (y : A) (inserted : Result U E) (done : U) → inserted ≡ Ok done → left ≡ remove xs 0 →
    back ≡ (if is_ok inserted then insert left 0 y else left) → back ≡ with_first xs y
put_back {A = A} xs left back y inserted done is out in_place = rw is at in_place ∙ ap (λ (left : List A). insert left 0 y) out

-- such a list
pub first_changed : {A : Type 0} (R : A → A → Type 0) → ((x : A) → R x x) → (xs : List A) (x y : A) → 0 < length xs →
    x ≡ slice_index_or xs 0 x → R x y → Pairwise R xs (with_first xs y)
first_changed R same [] x y some is r = absurd (omega (arith, some))
first_changed R same (z ∷ xs) x y some is r = (subst (λ w. R w y) is r, all_same R same xs)

-- the same where the call was done, beside what holds of the disk, of the kit and of the sink
pub done_changed : {A T : Type 0} (P Q V W : Type 0) (R : A → A → Type 0) → ((x : A) → R x x) → (xs : List A) (x y : A) → 0 < length xs →
    x ≡ slice_index_or xs 0 x → (rose : Type 0) (scanned : Result T Status) (status : Status) → IfErr scanned IsRefusal →
    EndsAs rose (scanned_as scanned) status → OnOk scanned (R x y × P × Q × V) → IfDone status W →
    IfDone status (Pairwise R xs (with_first xs y) × P × Q × V × W)
done_changed P Q V W R same xs x y some is rose (Ok found) Done refused ends h w = (first_changed R same xs x y some is h.0, h.1, h.2, h.3, w)
done_changed P Q V W R same xs x y some is rose (Err refusal) Done refused ends h w = absurd (not_done rose refusal Done refused ends)
done_changed P Q V W R same xs x y some is rose scanned _ refused ends h w = tt

all_hold : {A : Type 0} (P Q : A → Type 0) → ((x : A) → P x → Q x) → (xs : List A) → All P xs → AllByRecursion Q xs
all_hold P Q gives [] all = tt
all_hold P Q gives (x ∷ xs) all =
    (gives x (all 0 x (omega arith)), all_hold P Q gives xs (λ k d lt. all (suc k) d (omega arith)))

-- the first holds it by what it became, and the others by what they were
pub first_holds : {A : Type 0} (P Q : A → Type 0) → ((x : A) → P x → Q x) → (xs : List A) (y : A) → All P xs → Q y →
    AllByRecursion Q (with_first xs y)
first_holds P Q gives [] y all q = (q, tt)
first_holds P Q gives (x ∷ xs) y all q = (q, all_hold P Q gives xs (λ k d lt. all (suc k) d (omega arith)))

-- ---- the answers of a call

-- a form is built or it isn't
not_both : (command : Result Command BadWord) (what : Unbuilt) → IsOkAnd command (λ command. unbuilt_in command ≡ None) → unbuilt_of command ≡ Some what → ⊥
not_both (Ok command) what built is = apart (sym built ∙ is)
  where
    apart : None ≡ Some what → ⊥
    apart is = cc
not_both (Err bad) what built is = built

-- an answer with its cause is complete
complete_of_cause : {R : Type 0} (call : Call R) (status : Status) → IsCause call status → IsComplete call status
complete_of_cause call Done cause built within source lists disk kit sink = inl refl
complete_of_cause call NoMemory cause built within source lists disk kit sink = inr refl
complete_of_cause call (Usage word why) cause built within source lists disk kit sink =
    absurd (subst (λ (command : Result Command BadWord). IsBuilt (record call { command = command })) cause built)
complete_of_cause call (ListTooLong list size) cause built within source lists disk kit sink =
    absurd (omega (arith, within.lists list size cause.measured, cause.above))
complete_of_cause call (ReadFault StopList) cause built within source lists disk kit sink = absurd (lists cause)
complete_of_cause call (ReadFault AlertList) cause built within source lists disk kit sink = absurd (lists cause)
complete_of_cause call (ReadFault Image) cause built within source lists disk kit sink = absurd (source cause)
complete_of_cause call (ReadFault (Page page)) cause built within source lists disk kit sink = absurd (source cause.0)
complete_of_cause call (PatternRefused index) cause built within source lists disk kit sink = absurd (kit cause.0)
complete_of_cause call DiskFault cause built within source lists disk kit sink = absurd (disk cause)
complete_of_cause call OutFault cause built within source lists disk kit sink = absurd (sink cause.0)
complete_of_cause call (NotYet what) cause built within source lists disk kit sink = absurd (not_both call.command what built cause)
complete_of_cause call (TooManyPages pages) cause built within source lists disk kit sink = absurd (many_or_few (scan_of call.command) cause within.pages)
  where
    many_or_few : (scan : Option Scan) → IsSomeAnd scan (λ scan. AreTooMany (image_seen call scan) pages) → IfSome scan (λ scan. HasFewPages (image_seen call scan)) → ⊥
    many_or_few None many few = many
    many_or_few (Some scan) many few = omega (arith, few pages many.counted, many.above)

module _ {S L D R O : Type 0} (nature : S → SourceNature) (slots : S → ℕ → Option Slot) (faults : S → ℕ) (disk_nature : D → DiskNature) (files : D → Files) (disk_faults : D → ℕ)
    (list_nature : L → SourceNature) (list_slots : L → ℕ → Option Slot) (list_faults : L → ℕ) (lists lists_left : L)
    (reads : List ℕ → R → Type 0) (matches : R → List ℕ → Option ℕ) (readings : List R) (refusals refusals_left : Refusals)
    (taken : O → Option (List ℕ)) (sink_faults : O → ℕ) (command : Result Command BadWord) (disk disk_left : D) (sink sink_left : O) (status : Status) where
  abbrev call : List S → List S → Call R
  call sources left = and_sink taken sink_faults sink sink_left (and_kit refusals refusals_left (and_readings reads matches readings
      (and_lists list_nature list_slots list_faults lists lists_left
      (call_of nature slots faults disk_nature files disk_faults command sources left disk disk_left))))

  -- what is borne by the first source is borne by all of them
  pub answers_of_first : (xs : List S) (x y : S) → 0 < length xs → x ≡ slice_index_or xs 0 x →
      IsCause (call (x ∷ []) (y ∷ [])) status → IsExact (call (x ∷ []) (y ∷ [])) status → HasLists (call (x ∷ []) (y ∷ [])) status →
      HasReadings (call (x ∷ []) (y ∷ [])) status → HasParts (call (x ∷ []) (y ∷ [])) status → IsPrinted (call (x ∷ []) (y ∷ [])) status →
      Answers (call xs (with_first xs y)) status
  answers_of_first [] x y some is cause exact listed read parts printed = absurd (omega (arith, some))
  answers_of_first (z ∷ xs) x y some is cause exact listed read parts printed =
      let first = call (z ∷ []) (y ∷ []) in
      let rose = (call (z ∷ xs) (y ∷ xs)).source_rose in
      let one = subst (λ (w : S). IsCause (call (w ∷ []) (y ∷ [])) status) is cause in
      let all = cause_grown first rose first.sink_rose first.takes (⊎_elim (λ r. inl r) (λ none. absurd none)) (λ rose. rose) status one in
      record {
        cause = all;
        exact = exact_grown first rose first.sink_rose first.takes status (subst (λ (w : S). IsExact (call (w ∷ []) (y ∷ [])) status) is exact);
        complete = complete_of_cause (call (z ∷ xs) (y ∷ xs)) status all;
        lists = listed;
        readings = read;
        parts = parts;
        printed = subst (λ (w : S). IsPrinted (call (w ∷ []) (y ∷ [])) status) is printed;
      }
