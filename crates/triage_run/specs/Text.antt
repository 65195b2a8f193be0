-- The text that a call puts: the line of a refusal, or what a scan that is done has found.
use Rattle.std.specs.Prelude.{◌⊎◌, ℕ, ◌==◌, ◌++◌, List, [], length, map, filter, flat_map, take, codes, Option, Some, None, Result, Ok, Err, if◌then◌else◌}
use Rattle.std.specs.Fmt.{decimal}
use Rattle.std.specs.Int.{div_ceil}
use Rattle.forensic_path.specs.declared.feature.Classed.{Classed}
use Rattle.feature_file.specs.Files.{name_of}
use Rattle.feature_file.specs.FeatureFile.{stands_in}
use Rattle.triage_run.specs.declared.status.Status.{Status}
use Rattle.triage_run.specs.declared.status.Status.TheVariants.{Done, Usage, ListTooLong, ReadFault, PatternRefused, TooManyPages, DiskFault, OutFault, NoMemory, NotYet}
use Rattle.triage_run.specs.declared.status.List.{List as ListName}
use Rattle.triage_run.specs.declared.status.List.TheVariants.{Stop, Alert}
use Rattle.triage_run.specs.declared.status.ReadPlace.{ReadPlace}
use Rattle.triage_run.specs.declared.status.ReadPlace.TheVariants.{StopList, AlertList, Image, Page}
use Rattle.triage_run.specs.declared.status.Unbuilt.{Unbuilt}
use Rattle.triage_run.specs.declared.status.Unbuilt.TheVariants.{Log}
use Rattle.triage_run.specs.declared.summary.FileLines.{FileLines}
use Rattle.scan_settings.specs.declared.fault.Why.{Why}
use Rattle.scan_settings.specs.Faults.{why_text}
use Rattle.triage_run.specs.Case.{Case, classed_of}

-- ---- the line of a refusal

-- which word is bad, and why
abbrev pub word_text : ℕ → Why → List ℕ
word_text word why = codes "word " ++ decimal word ++ codes ": " ++ why_text why

-- which list it is
abbrev pub list_text : ListName → List ℕ
list_text Stop = codes "stop"
list_text Alert = codes "alert"

-- what a source failed to give
abbrev pub place_text : ReadPlace → List ℕ
place_text StopList = codes "stop list"
place_text AlertList = codes "alert list"
place_text Image = codes "image"
place_text (Page page) = codes "page " ++ decimal page

-- which form of a command isn't built
abbrev pub unbuilt_text : Unbuilt → List ℕ
unbuilt_text Log = codes "log"

-- the line of a refusal; a text that could not be put has none
abbrev pub line_of : Status → List ℕ
line_of (Usage word why) = codes "usage: " ++ word_text word why ++ codes "\n"
line_of (ListTooLong list size) = codes "list too long: " ++ list_text list ++ codes " " ++ decimal size ++ codes "\n"
line_of (ReadFault place) = codes "read fault: " ++ place_text place ++ codes "\n"
line_of (PatternRefused index) = codes "pattern refused: " ++ decimal index ++ codes "\n"
line_of (TooManyPages pages) = codes "too many pages: " ++ decimal pages ++ codes "\n"
line_of DiskFault = codes "disk fault\n"
line_of NoMemory = codes "no memory\n"
line_of (NotYet what) = codes "not yet: " ++ unbuilt_text what ++ codes "\n"
line_of _ = []

-- ---- the text of a scan that is done

-- what was found: the pages of the image, its features, and the lines of each feature file
pub record Counts : Type 0 where
  pub pages : ℕ
  pub features : ℕ
  pub files : List FileLines

-- a file with how many of the features have their line in it
abbrev pub file_lines : List Classed → ℕ → FileLines
file_lines list number = record { file = number; lines = length (filter (stands_in number) list) }

-- the line of a file that has any: its name, and how many
abbrev pub file_line : FileLines → List ℕ
file_line f = if f.lines == 0 then [] else name_of f.file ++ codes " " ++ decimal f.lines ++ codes "\n"

-- the text of what was found
unfoldable pub counts_text : Counts → List ℕ
counts_text found =
    codes "done pages=" ++ decimal found.pages ++ codes " features=" ++ decimal found.features ++ codes "\n" ++ flat_map file_line found.files

module _ {R : Type 0} (matches : R → List ℕ → Option ℕ) where
  -- what is found in a case, with the lines of these files in their order
  abbrev pub counts_of : List ℕ → Case R → Counts
  counts_of numbers c = record {
    pages = div_ceil (length c.image) c.page;
    features = length (classed_of matches c);
    files = map (file_lines (classed_of matches c)) numbers;
  }

-- the text of what was found, where a scan was done
abbrev pub counts_told : {A : Type 0} → Result Counts A → Option (List ℕ)
counts_told (Ok found) = Some (counts_text found)
counts_told (Err refusal) = None

-- ---- the text of a status

-- the text to be put: the line of a refusal, and else what was found, where that is told
abbrev pub text_of : Option (List ℕ) → Status → Option (List ℕ)
text_of found Done = found
text_of found OutFault = found
text_of found status = Some (line_of status)

-- a front of the text, and where the count of the sink did not rise all of it, or nothing for want of memory
abbrev pub IsPutInPart : (List ℕ → Type 0) → Type 0 → List ℕ → Type 0
IsPutInPart takes rose text = ((count : ℕ) × takes (take count text)) × (¬ rose → takes text ⊎ takes [])

-- Done puts its text, and any other status a part of it
abbrev pub IsPut : (List ℕ → Type 0) → Type 0 → Status → List ℕ → Type 0
IsPut takes rose Done text = takes text
IsPut takes rose _ text = IsPutInPart takes rose text
