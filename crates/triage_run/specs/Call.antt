-- What a call saw and left, and which answers this bears.
use Rattle.std.specs.Prelude.{◌≡◌, ℕ, Bool, List, [], ◌∷◌, Option, Some, None, option_map, option_and_then, IfSome, IsSomeAnd, Result, Err, IsOkAnd, IfOk, IfErr}
use Rattle.byte_kit.specs.Counts.{Rose}
use Rattle.host_source.specs.Source.{SourceNature, Slot}
use Rattle.host_source.specs.Sink.{Takes}
use Rattle.host_disk.specs.Files.{Files}
use Rattle.host_disk.specs.Disk.{DiskNature}
use Rattle.scan_settings.specs.declared.fault.BadWord.{BadWord}
use Rattle.scan_settings.specs.declared.words.Command.{Command}
use Rattle.scan_settings.specs.Faults.{bad}
use Rattle.triage_run.specs.declared.lists.TheConstants.{LIST_MOST}
use Rattle.triage_run.specs.declared.status.Status.{Status}
use Rattle.triage_run.specs.declared.status.Status.TheVariants.{Done, Usage, ListTooLong, ReadFault, PatternRefused, TooManyPages, DiskFault, OutFault, NoMemory, NotYet}
use Rattle.triage_run.specs.declared.status.List.{List as ListName}
use Rattle.triage_run.specs.declared.status.List.TheVariants.{Stop, Alert}
use Rattle.triage_run.specs.declared.status.ReadPlace.TheVariants.{StopList, AlertList, Image, Page}
use Rattle.triage_run.specs.declared.words.Scan.{Scan}
use Rattle.report_publish.specs.declared.publish.TheConstants.{FEATURE_FILES}
use Rattle.pattern_kit.specs.Building.{Refusals}
use Rattle.triage_run.specs.Case.{Case, case_by, case_made, LeavesReport}
use Rattle.triage_run.specs.Lists.{slot_of, lists_of, list_told, AreListed}
use Rattle.triage_run.specs.Patterns.{AreRead}
use Rattle.triage_run.specs.Image.{ImageSeen, HasAttached, AreTooMany, HasFewPages, HasPageAt}
use Rattle.triage_run.specs.Sizes.{Fits, IsSizeAbove}
use Rattle.triage_run.specs.Sources.{SourceRose, image_told, first_slots}
use Rattle.triage_run.specs.Steps.{alert_size, build, attach}
use Rattle.triage_run.specs.Status.{IsOrEarlier, IsBehind, IsDoneOrNoMemory, scanned_as}
use Rattle.triage_run.specs.Text.{Counts, counts_of, counts_text, text_of, IsPut}
use Rattle.triage_run.specs.declared.words.Task.{Task}
use Rattle.triage_run.specs.declared.words.Task.TheVariants.{Scan as ScanTask, Generate as GenerateTask}
use Rattle.triage_run.specs.Words.{task_of, scan_of, patterns_in, unbuilt_in, unbuilt_of}

-- What a call saw: the command or the first bad word, the bytes of the image and of each list where they are
-- told, what the first source and that of the lists have attached at the end, whether a count of faults or of
-- refusals rose, what the patterns were read as and what that matches; the files that it left, and whether just
-- these bytes were put, as far as the sink tells that
pub record Call (R : Type 0) : Type 1 where
  pub command : Result Command BadWord
  pub image : Option (List ℕ)
  pub slots : ℕ → Option Slot
  pub source_rose : Type 0
  pub lists : ListName → Option (List ℕ)
  pub list_slots : ℕ → Option Slot
  pub lists_rose : Type 0
  pub disk_rose : Type 0
  pub tells : Bool
  pub files : Files
  pub kit_rose : Type 0
  pub kit_last : Option ℕ
  pub reads : List ℕ → R → Type 0
  pub matches : R → List ℕ → Option ℕ
  pub readings : List R
  pub sink_rose : Type 0
  pub takes : List ℕ → Type 0

-- the call of a command over these sources and this disk, which left those, ahead of its lists, its patterns and its text
abbrev pub call_of : {S D R : Type 0} → (S → SourceNature) → (S → ℕ → Option Slot) → (S → ℕ) → (D → DiskNature) → (D → Files) → (D → ℕ)
    → Result Command BadWord → List S → List S → D → D → Call R
call_of nature slots faults disk_nature files disk_faults command sources left disk disk_left = record {
  command = command;
  image = image_told nature sources (scan_of command);
  slots = first_slots slots left;
  source_rose = SourceRose faults sources left;
  lists = λ list. None;
  list_slots = λ slot. None;
  lists_rose = ⊥;
  disk_rose = Rose (disk_faults disk) (disk_faults disk_left);
  tells = (disk_nature disk).tells;
  files = files disk_left;
  kit_rose = ⊥;
  kit_last = None;
  reads = λ text reading. ⊥;
  matches = λ reading bytes. None;
  readings = [];
  sink_rose = ⊥;
  takes = λ bytes. bytes ≡ [];
}

-- the call of a command over one source
abbrev pub call_over : {S D R : Type 0} → (S → SourceNature) → (S → ℕ → Option Slot) → (S → ℕ) → (D → DiskNature) → (D → Files) → (D → ℕ)
    → Result Command BadWord → S → S → D → D → Call R
call_over nature slots faults disk_nature files disk_faults command source left disk disk_left =
    call_of nature slots faults disk_nature files disk_faults command (source ∷ []) (left ∷ []) disk disk_left

-- the call with the source of its lists, which left that
abbrev pub and_lists : {L R : Type 0} → (L → SourceNature) → (L → ℕ → Option Slot) → (L → ℕ) → L → L → Call R → Call R
and_lists nature slots faults lists left call = record call {
  lists = list_told (nature lists) (lists_of (scan_of call.command));
  list_slots = slots left;
  lists_rose = Rose (faults lists) (faults left);
}

-- the call with its patterns, which were read so
abbrev pub and_readings : {R : Type 0} → (List ℕ → R → Type 0) → (R → List ℕ → Option ℕ) → List R → Call R → Call R
and_readings reads matches readings call = record call { reads = reads; matches = matches; readings = readings }

-- the call with its kit, which had these refusals and left those
abbrev pub and_kit : {R : Type 0} → Refusals → Refusals → Call R → Call R
and_kit refusals refusals_left call = record call { kit_rose = Rose refusals.count refusals_left.count; kit_last = refusals_left.last }

-- the call with its text, which went to this sink and left that
abbrev pub and_sink : {O R : Type 0} → (O → Option (List ℕ)) → (O → ℕ) → O → O → Call R → Call R
and_sink taken sink_faults sink sink_left call = record call {
  sink_rose = Rose (sink_faults sink) (sink_faults sink_left);
  takes = λ bytes. Takes (taken sink) (taken sink_left) bytes;
}

-- ---- the words, the lists and the image of a call

-- the words are a command of a form that is built
abbrev pub IsBuilt : {R : Type 0} → Call R → Type 0
IsBuilt call = IsOkAnd call.command (λ command. unbuilt_in command ≡ None)

-- a list has so many bytes, which are more than are read
abbrev pub IsTooLong : {R : Type 0} → Call R → ListName → ℕ → Type 0
IsTooLong call list bytes = IsSizeAbove LIST_MOST (call.lists list) (call.list_slots (slot_of list)) bytes

-- the image of a scan, as the call saw it
abbrev pub image_seen : {R : Type 0} → Call R → Scan → ImageSeen
image_seen call scan = record { bytes = call.image; parts = scan.parts; slots = call.slots; page = scan.search.page }

-- it has so many pages, which are more than are scanned
abbrev pub HasTooMany : {R : Type 0} → Call R → ℕ → Type 0
HasTooMany call pages = IsSomeAnd (scan_of call.command) (λ scan. AreTooMany (image_seen call scan) pages)

-- it has a page of this number
abbrev pub HasPage : {R : Type 0} → Call R → ℕ → Type 0
HasPage call page = IsSomeAnd (scan_of call.command) (λ scan. HasPageAt (image_seen call scan) page)

-- no list is longer than is read, and the image has no more pages than are scanned
pub record IsWithin {R : Type 0} (call : Call R) : Type 0 where
  pub lists : (list : ListName) → Fits LIST_MOST (call.lists list) (call.list_slots (slot_of list))
  pub pages : IfSome (scan_of call.command) (λ scan. HasFewPages (image_seen call scan))

-- ---- the report of a call

-- the case of a scan, where the image and both lists are told
abbrev pub case_told : {R : Type 0} → Call R → Scan → Option (Case R)
case_told call scan =
    option_and_then (λ stop. option_and_then (λ alert. option_map (case_by scan call.readings stop alert) call.image) (call.lists Alert)) (call.lists Stop)

-- the case of a task: an image that is made is always told
abbrev pub case_in : {R : Type 0} → Call R → Task → Option (Case R)
case_in call (ScanTask scan) = case_told call scan
case_in call (GenerateTask made) = Some (case_made call.readings made)

-- the case of what the words ask for
abbrev pub case_of : {R : Type 0} → Call R → Option (Case R)
case_of call = option_and_then (case_in call) (task_of call.command)

-- the report of the image that is scanned stands; one that is made leaves no files
abbrev pub HasReport : {R : Type 0} → Call R → Type 0
HasReport call = IfSome (option_and_then (case_told call) (scan_of call.command)) (λ c. LeavesReport call.matches c call.tells call.files)

-- the text of what is found
abbrev pub found_text : {R : Type 0} → Call R → Case R → List ℕ
found_text call c = counts_text (counts_of call.matches FEATURE_FILES c)

-- ---- the answers

-- each answer comes only where this is so; want of memory alone is free
abbrev pub IsCause : {R : Type 0} → Call R → Status → Type 0
IsCause call Done = IsBuilt call × HasReport call
IsCause call (Usage word why) = call.command ≡ Err (bad word why)
IsCause call (ReadFault StopList) = call.lists_rose
IsCause call (ReadFault AlertList) = call.lists_rose
IsCause call (ListTooLong list size) = IsTooLong call list size
IsCause call (PatternRefused index) = call.kit_rose × (call.kit_last ≡ Some index)
IsCause call (ReadFault Image) = call.source_rose
IsCause call (TooManyPages pages) = HasTooMany call pages
IsCause call (NotYet what) = unbuilt_of call.command ≡ Some what
IsCause call DiskFault = call.disk_rose
IsCause call (ReadFault (Page page)) = call.source_rose × HasPage call page
IsCause call OutFault = call.sink_rose × IsBuilt call × HasReport call
IsCause call NoMemory = Unit {0}

-- a bad word, a form that isn't built, a list that is too long, and too many pages are refused, unless an earlier
-- refusal hides that
pub record IsExact {R : Type 0} (call : Call R) (status : Status) : Type 0 where
  pub usage : IfErr call.command (λ bad. IsOrEarlier (Usage bad.word bad.why) status)
  pub form : IfSome (unbuilt_of call.command) (λ what. IsOrEarlier (NotYet what) status)
  pub list : (list : ListName) (bytes : ℕ) → IsTooLong call list bytes → IsOrEarlier (ListTooLong list bytes) status
  pub pages : (pages : ℕ) → HasTooMany call pages → IsOrEarlier (TooManyPages pages) status

-- a form that is built, nothing too long, not too many pages, and no count that rose: the call is done, or wants memory
abbrev pub IsComplete : {R : Type 0} → Call R → Status → Type 0
IsComplete call status =
    IsBuilt call → IsWithin call
    → ¬ call.source_rose → ¬ call.lists_rose → ¬ call.disk_rose → ¬ call.kit_rose → ¬ call.sink_rose → IsDoneOrNoMemory status

-- behind the lists each that is named has its slot
abbrev pub HasLists : {R : Type 0} → Call R → Status → Type 0
HasLists call status = IsBehind alert_size status → AreListed (lists_of (scan_of call.command)) call.list_slots

-- behind the build each pattern has its reading, in order
abbrev pub HasReadings : {R : Type 0} → Call R → Status → Type 0
HasReadings call status = IsBehind build status → AreRead call.reads (patterns_in (task_of call.command)) call.readings

-- behind the attach each part has its slot, in order
abbrev pub HasParts : {R : Type 0} → Call R → Status → Type 0
HasParts call status = IsBehind attach status → IfSome (scan_of call.command) (λ scan. HasAttached call.slots scan.parts)

-- the text of the status was put, as far as the case and the bytes put are told
abbrev pub IsPrinted : {R : Type 0} → Call R → Status → Type 0
IsPrinted call status = IfSome (text_of (option_map (found_text call) (case_of call)) status) (IsPut call.takes call.sink_rose status)

-- what a call answers is borne by what it saw and left
pub record Answers {R : Type 0} (call : Call R) (status : Status) : Type 0 where
  pub cause : IsCause call status
  pub exact : IsExact call status
  pub complete : IsComplete call status
  pub lists : HasLists call status
  pub readings : HasReadings call status
  pub parts : HasParts call status
  pub printed : IsPrinted call status

-- ---- ahead of the text

-- what was found is what the case has, where this is told
abbrev pub HasFound : {R T : Type 0} → Call R → Result Counts T → Type 0
HasFound call scanned = IfOk scanned (λ found. IfSome (case_of call) (λ c. found ≡ counts_of call.matches FEATURE_FILES c))

-- what a scan answers, ahead of its text, is borne by what it saw and left
pub record Scanned {R : Type 0} (call : Call R) (scanned : Result Counts Status) : Type 0 where
  pub cause : IsCause call (scanned_as scanned)
  pub exact : IsExact call (scanned_as scanned)
  pub lists : HasLists call (scanned_as scanned)
  pub readings : HasReadings call (scanned_as scanned)
  pub parts : HasParts call (scanned_as scanned)
  pub found : HasFound call scanned
