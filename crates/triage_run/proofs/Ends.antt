-- What the ends of a scan bear, ahead of its text: each refusal, and the scan of its image.
use Rattle.std.proofs.Common.{◌≡◌, ◌∙◌, inl, inr, refl, sym, ap, subst, arith, ℕ, ◌<◌, ◌≤◌, ◌*◌, ◌++◌, map, List, [], ◌∷◌, length, Option, Some, None, Result, Ok, Err, IfOk, IfErr, OnOk, Bool}
use Rattle.std.specs.Prelude.{IfSome, IsSomeAnd, option_and_then, option_map, nat_lt, slice_index_or, true, false, if◌then◌else◌}
use Rattle.byte_kit.specs.Counts.{Rose}
use Rattle.std.proofs.lemmas.List.{append-nil}
use Rattle.std.proofs.lemmas.Bool.Decides.{nat_tests}
use Rattle.forensic_path.specs.declared.feature.Classed.{Classed}
use Rattle.host_source.specs.Source.{Slot}
use Rattle.pattern_kit.specs.Building.{Refusals}
use Rattle.scan_settings.specs.declared.fault.BadWord.{BadWord}
use Rattle.scan_settings.specs.declared.words.Command.{Command}
use Rattle.scan_settings.specs.declared.words.Command.TheVariants.{Scan as ScanCommand, Generate as GenerateCommand}
use Rattle.triage_run.specs.declared.status.Status.{Status}
use Rattle.triage_run.specs.declared.status.Status.TheVariants.{Done, Usage, ListTooLong, ReadFault, PatternRefused, TooManyPages, DiskFault, NoMemory, NotYet}
use Rattle.triage_run.specs.declared.status.List.{List as ListName}
use Rattle.triage_run.specs.declared.status.List.TheVariants.{Stop, Alert}
use Rattle.triage_run.specs.declared.status.ReadPlace.TheVariants.{StopList, AlertList, Image, Page}
use Rattle.triage_run.specs.declared.status.Unbuilt.{Unbuilt}
use Rattle.triage_run.specs.declared.words.Scan.{Scan}
use Rattle.triage_run.specs.declared.words.Generate.{Generate}
use Rattle.triage_run.specs.declared.words.Task.{Task}
use Rattle.triage_run.specs.declared.words.Task.TheVariants.{Scan as ScanTask, Generate as GenerateTask}
use Rattle.triage_run.specs.Call.{Call, IsBuilt, IsTooLong, HasTooMany, image_seen, case_told, case_in, HasReport, IsCause, IsExact, HasFound, Scanned}
use Rattle.triage_run.specs.Case.{joined, case_made, LeavesReport}
use Rattle.triage_run.specs.Lists.{lists_of, AreListed, AreEntries, ListFits, IsListsEnd}
use Rattle.triage_run.specs.Image.{ImageSeen, HasAttached, AreTooMany, HasFewPages, HasPageAt, items_under, WritesImage, CountsImage, IsImageEnd}
use Rattle.triage_run.proofs.ImageSizes.{count_is_one}
use Rattle.triage_run.proofs.WholeReport.{report_told, counts_told}
use Rattle.stop_lists.specs.Lists.{ListEntries}
use Rattle.report_publish.specs.declared.publish.TheConstants.{FEATURE_FILES}
use Rattle.triage_run.specs.Patterns.{AreRead, IsBuildEnd}
use Rattle.triage_run.specs.Sizes.{IsSize}
use Rattle.triage_run.specs.Status.{step_of, IsOrEarlier, IsBehind, scanned_as}
use Rattle.triage_run.specs.Steps.{form, alert_size, attach, pages}
use Rattle.triage_run.specs.Text.{Counts, counts_of}
use Rattle.triage_run.specs.Words.{task_in, task_of, scan_in, scan_of, patterns_in, unbuilt_in, unbuilt_of, IsWordsEnd}

-- ---- steps

list_step : (list : ListName) (bytes : ℕ) → form < step_of (ListTooLong list bytes)
list_step Stop bytes = omega arith
list_step Alert bytes = omega arith

if_err_of : {T E : Type 0} (result : Result T E) (P : E → Type 0) → ((e : E) → P e) → IfErr result P
if_err_of (Ok value) P holds = tt
if_err_of (Err e) P holds = holds e

if_some_of : {A : Type 0} (option : Option A) (P : A → Type 0) → ((x : A) → P x) → IfSome option P
if_some_of None P holds = tt
if_some_of (Some x) P holds = holds x

-- what is attached has one size
size_is_one : (told : Option (List ℕ)) (slot : Option Slot) (a b : ℕ) → IsSize told slot a → IsSize told slot b → a ≡ b
size_is_one (Some bytes) slot a b is_a is_b = is_a ∙ sym is_b
size_is_one None (Some s) a b is_a is_b = is_a ∙ sym is_b
size_is_one None None a b is_a is_b = absurd is_a

abbrev refused : Status → Result Counts Status
refused refusal = Err refusal

module _ {R : Type 0} (call : Call R) where
  -- a refusal that comes no later than the alert list
  early : (refusal : Status) → step_of refusal ≤ alert_size → IsCause call refusal → IsExact call refusal → Scanned call (refused refusal)
  early refusal low cause exact = record {
    cause = cause;
    exact = exact;
    lists = λ behind. absurd (omega (arith, low, behind));
    readings = λ behind. absurd (omega (arith, low, behind));
    parts = λ behind. absurd (omega (arith, low, behind));
    found = tt;
  }

  -- ---- want of memory, and the words

  -- want of memory bears everything
  pub memory_bears : Scanned call (refused NoMemory)
  memory_bears = early NoMemory (omega arith) tt (record {
    usage = if_err_of call.command _ (λ bad. inr (omega arith));
    form = if_some_of (unbuilt_of call.command) _ (λ what. inr (omega arith));
    list = λ list bytes long. inr (omega (arith, list_step list bytes));
    pages = λ pages many. inr (omega arith);
  })

  -- a form that isn't built is one of a command
  no_bad_word : (command : Result Command BadWord) (what : Unbuilt) (P : BadWord → Type 0) → unbuilt_of command ≡ Some what → IfErr command P
  no_bad_word (Ok command) what P is = tt
  no_bad_word (Err bad) what P is = cc

  form_refused : (what : Unbuilt) → unbuilt_of call.command ≡ Some what → Scanned call (refused (NotYet what))
  form_refused what is = early (NotYet what) (omega arith) is (record {
    usage = no_bad_word call.command what _ is;
    form = subst (λ (form : Option Unbuilt). IfSome form (λ w. IsOrEarlier (NotYet w) (NotYet what))) (sym is) (inl refl);
    list = λ list bytes long. inr (omega (arith, list_step list bytes));
    pages = λ pages many. inr (omega arith);
  })

  -- the first bad word was named, or the first form that isn't built
  pub words_refused : (refusal : Status) → IsWordsEnd call.command refusal → Scanned call (refused refusal)
  words_refused (Usage word why) bad = early (Usage word why) (omega arith) bad (record {
    usage = subst (λ (command : Result Command BadWord). IfErr command (λ bad. IsOrEarlier (Usage bad.word bad.why) (Usage word why))) (sym bad) (inl refl);
    form = if_some_of (unbuilt_of call.command) _ (λ what. inr (omega arith));
    list = λ list bytes long. inr (omega (arith, list_step list bytes));
    pages = λ pages many. inr (omega arith);
  })
  words_refused (NotYet what) is = form_refused what is
  words_refused NoMemory bad = memory_bears
  words_refused _ bad = absurd bad

  -- ---- behind the words

  module _ (command : Command) (is : call.command ≡ Ok command) (built : unbuilt_in command ≡ None) where
    is_built : IsBuilt call
    is_built = subst (λ (command : Result Command BadWord). IsBuilt (record call { command = command })) (sym is) built

    exact_behind : (status : Status) → ((list : ListName) (bytes : ℕ) → IsTooLong call list bytes → IsOrEarlier (ListTooLong list bytes) status)
        → ((pages : ℕ) → HasTooMany call pages → IsOrEarlier (TooManyPages pages) status) → IsExact call status
    exact_behind status long many = record {
      usage = subst (λ (command : Result Command BadWord). IfErr command (λ bad. IsOrEarlier (Usage bad.word bad.why) status)) (sym is) tt;
      form = subst (λ (form : Option Unbuilt). IfSome form (λ what. IsOrEarlier (NotYet what) status)) (sym (ap unbuilt_of is ∙ built)) tt;
      list = long;
      pages = many;
    }

    -- a list is too long, or could not be read
    pub lists_refused : (refusal : Status) → IsListsEnd call.lists call.list_slots call.lists_rose refusal → Scanned call (refused refusal)
    lists_refused (ListTooLong Stop size) end =
        early (ListTooLong Stop size) (omega arith) end (exact_behind (ListTooLong Stop size) longer (λ pages many. inr (omega arith)))
      where
        longer : (list : ListName) (bytes : ℕ) → IsTooLong call list bytes → IsOrEarlier (ListTooLong list bytes) (ListTooLong Stop size)
        longer Stop bytes long = inl (ap (ListTooLong Stop) (size_is_one (call.lists Stop) (call.list_slots 0) size bytes end.measured long.measured))
        longer Alert bytes long = inr (omega arith)
    lists_refused (ListTooLong Alert size) end =
        early (ListTooLong Alert size) (omega arith) end.0 (exact_behind (ListTooLong Alert size) longer (λ pages many. inr (omega arith)))
      where
        longer : (list : ListName) (bytes : ℕ) → IsTooLong call list bytes → IsOrEarlier (ListTooLong list bytes) (ListTooLong Alert size)
        longer Stop bytes long = absurd (omega (arith, end.1 bytes long.measured, long.above))
        longer Alert bytes long = inl (ap (ListTooLong Alert) (size_is_one (call.lists Alert) (call.list_slots 1) size bytes end.0.measured long.measured))
    lists_refused (ReadFault StopList) end =
        early (ReadFault StopList) (omega arith) end (exact_behind (ReadFault StopList) longer (λ pages many. inr (omega arith)))
      where
        longer : (list : ListName) (bytes : ℕ) → IsTooLong call list bytes → IsOrEarlier (ListTooLong list bytes) (ReadFault StopList)
        longer Stop bytes long = inr (omega arith)
        longer Alert bytes long = inr (omega arith)
    lists_refused (ReadFault AlertList) end =
        early (ReadFault AlertList) (omega arith) end.0 (exact_behind (ReadFault AlertList) longer (λ pages many. inr (omega arith)))
      where
        longer : (list : ListName) (bytes : ℕ) → IsTooLong call list bytes → IsOrEarlier (ListTooLong list bytes) (ReadFault AlertList)
        longer Stop bytes long = absurd (omega (arith, end.1 bytes long.measured, long.above))
        longer Alert bytes long = inr (omega arith)
    lists_refused NoMemory end = memory_bears
    lists_refused _ end = absurd end

    -- ---- behind the lists

    module _ (fits : (list : ListName) → ListFits call.lists call.list_slots list) (listed : AreListed (lists_of (scan_of call.command)) call.list_slots) where
      -- no list is too long
      no_longer : (status : Status) (list : ListName) (bytes : ℕ) → IsTooLong call list bytes → IsOrEarlier (ListTooLong list bytes) status
      no_longer status list bytes long = absurd (omega (arith, fits list bytes long.measured, long.above))

      -- a pattern was refused
      pub build_refused : (before now : Refusals) (refusal : Status) → IsBuildEnd before now refusal →
          call.kit_rose ≡ Rose before.count now.count → call.kit_last ≡ now.last → Scanned call (refused refusal)
      build_refused before now (PatternRefused index) end rose last = record {
        cause = (subst (λ (T : Type 0). T) (sym rose) end.0, last ∙ end.1);
        exact = exact_behind (PatternRefused index) (no_longer (PatternRefused index)) (λ pages many. inr (omega arith));
        lists = λ behind. listed;
        readings = λ behind. absurd (omega (arith, behind));
        parts = λ behind. absurd (omega (arith, behind));
        found = tt;
      }
      build_refused before now NoMemory end rose last = memory_bears
      build_refused before now _ end rose last = absurd end

      -- ---- the scan of an image that is made

      module _ (made : Generate) (makes : task_in command ≡ GenerateTask made) where
        none_scanned : scan_of call.command ≡ None
        none_scanned = ap scan_of is ∙ ap scan_in makes

        made_is : task_of call.command ≡ Some (GenerateTask made)
        made_is = ap task_of is ∙ ap Some makes

        pub made_scanned : (found : Counts) → AreRead call.reads made.search.plan.patterns call.readings →
            found ≡ counts_of call.matches FEATURE_FILES (case_made call.readings made) → Scanned call (Ok found)
        made_scanned found read same = record {
          cause = (is_built, subst (λ (scan : Option Scan). IfSome (option_and_then (case_told call) scan) (λ c. LeavesReport call.matches c call.tells call.files)) (sym none_scanned) tt);
          exact = exact_behind Done (no_longer Done) (λ pages many. absurd (subst (λ (scan : Option Scan). IsSomeAnd scan (λ scan. AreTooMany (image_seen call scan) pages)) none_scanned many));
          lists = λ behind. listed;
          readings = λ behind. subst (λ (task : Option Task). AreRead call.reads (patterns_in task) call.readings) (sym made_is) read;
          parts = λ behind. subst (λ (scan : Option Scan). IfSome scan (λ scan. HasAttached call.slots scan.parts)) (sym none_scanned) tt;
          found = subst (λ (task : Option Task). IfSome (option_and_then (case_in call) task) (λ c. found ≡ counts_of call.matches FEATURE_FILES c)) (sym made_is) same;
        }

      -- ---- the scan of the image

      module _ (scan : Scan) (told : Option (List ℕ)) (scans : task_in command ≡ ScanTask scan)
          (same : call.image ≡ told) (read : AreRead call.reads scan.search.plan.patterns call.readings) where
        abbrev seen : ImageSeen
        seen = record { bytes = told; parts = scan.parts; slots = call.slots; page = scan.search.page }

        scanned_is : scan_of call.command ≡ Some scan
        scanned_is = ap scan_of is ∙ ap scan_in scans

        task_is : task_of call.command ≡ Some (ScanTask scan)
        task_is = ap task_of is ∙ ap Some scans

        -- what holds of the image holds as the call says it, and the other way
        as_seen : (P : ImageSeen → Type 0) → P seen → IsSomeAnd (scan_of call.command) (λ scan. P (image_seen call scan))
        as_seen P holds = subst (λ (scan : Option Scan). IsSomeAnd scan (λ scan. P (image_seen call scan))) (sym scanned_is)
            (subst (λ (told : Option (List ℕ)). P (record seen { bytes = told })) (sym same) holds)

        of_seen : (P : ImageSeen → Type 0) → IsSomeAnd (scan_of call.command) (λ scan. P (image_seen call scan)) → P seen
        of_seen P holds = subst (λ (told : Option (List ℕ)). P (record seen { bytes = told })) same
            (subst (λ (scan : Option Scan). IsSomeAnd scan (λ scan. P (image_seen call scan))) scanned_is holds)

        image_end : (scanned : Result Counts Status) → IsCause call (scanned_as scanned) →
            ((pages : ℕ) → HasTooMany call pages → IsOrEarlier (TooManyPages pages) (scanned_as scanned)) →
            (IsBehind attach (scanned_as scanned) → HasAttached call.slots scan.parts) → HasFound call scanned → Scanned call scanned
        image_end scanned cause many attached found = record {
          cause = cause;
          exact = exact_behind (scanned_as scanned) (no_longer (scanned_as scanned)) many;
          lists = λ behind. listed;
          readings = λ behind. subst (λ (task : Option Task). AreRead call.reads (patterns_in task) call.readings) (sym task_is) read;
          parts = λ behind. subst (λ (scan : Option Scan). IfSome scan (λ scan. HasAttached call.slots scan.parts)) (sym scanned_is) (attached behind);
          found = found;
        }

        -- no image of few pages has too many
        no_more : (status : Status) → HasFewPages seen → (pages : ℕ) → HasTooMany call pages → IsOrEarlier (TooManyPages pages) status
        no_more status few pages many =
            let too_many = of_seen (λ seen. AreTooMany seen pages) many in
            absurd (omega (arith, few pages too_many.counted, too_many.above))

        same_count : (pages others : ℕ) → AreTooMany seen pages → HasTooMany call others → IsOrEarlier (TooManyPages others) (TooManyPages pages)
        same_count pages others these those =
            inl (ap TooManyPages (count_is_one seen pages others these.counted (of_seen (λ seen. AreTooMany seen others) those).counted))

        pub image_scanned : (scanned : Result Counts Status) →
            (IsBehind attach (scanned_as scanned) → HasAttached call.slots scan.parts) →
            (IsBehind pages (scanned_as scanned) → HasFewPages seen) →
            OnOk scanned (HasReport call) → HasFound call scanned →
            IfErr scanned (IsImageEnd seen call.source_rose call.disk_rose) → Scanned call scanned
        image_scanned (Ok done) attached few report found end =
            image_end (Ok done) (is_built, report) (no_more Done (few (omega arith))) attached found
        image_scanned (Err (ReadFault Image)) attached few report found end =
            image_end (Err (ReadFault Image)) end (λ pages many. inr (omega arith)) attached found
        image_scanned (Err (TooManyPages count)) attached few report found end =
            image_end (Err (TooManyPages count)) (as_seen (λ seen. AreTooMany seen count) end) (λ pages many. same_count count pages end many) attached found
        image_scanned (Err DiskFault) attached few report found end =
            image_end (Err DiskFault) end (no_more DiskFault (few (omega arith))) attached found
        image_scanned (Err (ReadFault (Page page))) attached few report found end =
            image_end (Err (ReadFault (Page page))) (end.0, as_seen (λ seen. HasPageAt seen page) end.1) (no_more (ReadFault (Page page)) (few (omega arith))) attached found
        image_scanned (Err NoMemory) attached few report found end = memory_bears
        image_scanned (Err _) attached few report found end = absurd end

        -- ---- what the image bears, as the call says it

        module _ (lists : ListEntries) (entries : AreEntries call.lists lists) where
          abbrev found_in : List ℕ → List Classed
          found_in = items_under lists (map call.matches call.readings) scan.search.plan

          pub has_report : WritesImage scan.search.plan.scanners found_in told call.tells call.files → HasReport call
          has_report written = subst (λ (scan : Option Scan). IfSome (option_and_then (case_told call) scan) (λ c. LeavesReport call.matches c call.tells call.files))
              (sym scanned_is)
              (report_told call.matches scan call.readings lists (call.lists Stop) (call.lists Alert) call.image call.tells call.files entries.stop entries.alert
              (subst (λ (told : Option (List ℕ)). WritesImage scan.search.plan.scanners found_in told call.tells call.files) (sym same) written))

          pub has_found : (scanned : Result Counts Status) → IfOk scanned (CountsImage scan.search.page found_in told) → HasFound call scanned
          has_found (Ok found) is = subst (λ (task : Option Task). IfSome (option_and_then (case_in call) task) (λ c. found ≡ counts_of call.matches FEATURE_FILES c))
              (sym task_is)
              (counts_told call.matches scan call.readings lists (call.lists Stop) (call.lists Alert) call.image found entries.stop entries.alert
              (subst (λ (told : Option (List ℕ)). CountsImage scan.search.page found_in told found) (sym same) is))
          has_found (Err refusal) is = tt

-- ---- the command of a task

some_is : {A : Type 0} (x y : A) → Some x ≡ Some y → x ≡ y
some_is x y is = cc

-- the command that words give is the task's, and its form is built
pub command_is : (command : Result Command BadWord) (task : Task) → task_of command ≡ Some task → unbuilt_of command ≡ None →
    (given : Command) × (command ≡ Ok given) × (unbuilt_in given ≡ None) × (task_in given ≡ task)
command_is (Ok given) task is built = (given, refl, built, some_is (task_in given) task is)
command_is (Err bad) task is built = absurd (none_is is)
  where
    none_is : None ≡ Some task → ⊥
    none_is is = cc

pub on_ok : {T E : Type 0} (result : Result T E) (P Q : Type 0) → (P → Q) → OnOk result P → OnOk result Q
on_ok (Ok value) P Q gives p = gives p
on_ok (Err e) P Q gives p = tt

-- where the count of the source rose, that of some source did
pub image_end_among : (image : ImageSeen) (rose among disk : Type 0) → (rose → among) → (scanned : Result Counts Status) →
    IfErr scanned (IsImageEnd image rose disk) → IfErr scanned (IsImageEnd image among disk)
image_end_among image rose among disk more (Ok found) end = tt
image_end_among image rose among disk more (Err (ReadFault Image)) end = more end
image_end_among image rose among disk more (Err (ReadFault (Page number))) end = (more end.0, end.1)
image_end_among image rose among disk more (Err (TooManyPages count)) end = end
image_end_among image rose among disk more (Err DiskFault) end = end
image_end_among image rose among disk more (Err NoMemory) end = tt
image_end_among image rose among disk more (Err _) end = absurd end
