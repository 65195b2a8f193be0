-- What the words of a call ask for, and the forms of a command that aren't built.
use Rattle.std.specs.Prelude.{◌≡◌, ℕ, ◌≤◌, List, [], length, String, Option, Some, None, option_and_then, Result, Ok, Err, if◌then◌else◌}
use Rattle.image_gen.specs.declared.image.TheConstants.{IMAGE_MOST as GENERATED_MOST}
use Rattle.image_source.specs.declared.parts.TheConstants.{PARTS_MOST}
use Rattle.scan_find.specs.declared.TheConstants.{PATTERNS_MOST}
use Rattle.scan_settings.specs.declared.fault.BadWord.{BadWord}
use Rattle.scan_settings.specs.declared.settings.Plan.{Plan}
use Rattle.scan_settings.specs.declared.words.Command.{Command}
use Rattle.scan_settings.specs.declared.words.Command.TheVariants.{Scan as ScanCommand, Generate as GenerateCommand}
use Rattle.scan_settings.specs.Faults.{bad}
use Rattle.scan_settings.specs.Lawful.{IsWithin}
use Rattle.scan_settings.specs.Options.{page, margin}
use Rattle.scan_settings.specs.Settings.{texts}
use Rattle.scan_settings.specs.Words.{command_of}
use Rattle.scan_set.specs.declared.plan.ScanPlan.{ScanPlan}
use Rattle.scan_set.specs.Lawful.{IsLawful}
use Rattle.triage_run.specs.declared.status.Status.{Status}
use Rattle.triage_run.specs.declared.status.Status.TheVariants.{Usage, NoMemory, NotYet}
use Rattle.triage_run.specs.declared.status.Unbuilt.{Unbuilt}
use Rattle.triage_run.specs.declared.status.Unbuilt.TheVariants.{Log}
use Rattle.triage_run.specs.declared.words.Search.{Search}
use Rattle.triage_run.specs.declared.words.Scan.{Scan as ScanTask}
use Rattle.triage_run.specs.declared.words.Task.{Task}
use Rattle.triage_run.specs.declared.words.Task.TheVariants.{Scan, Generate}

-- ---- what is asked for

-- the plan of a scan by what options set of it
abbrev pub plan_of : Plan → ScanPlan
plan_of plan = record {
  scanners = plan.scanners;
  depth = plan.depth;
  mask = plan.mask;
  word_min = plan.word_min;
  word_max = plan.word_max;
  context = plan.context;
  keywords = plan.keywords;
  patterns = plan.patterns;
}

-- what a command asks for
abbrev pub task_in : Command → Task
task_in (ScanCommand settings parts place) = Scan (record {
  search = record { page = settings.page; margin = settings.margin; plan = plan_of settings.plan };
  lists = record { stop = settings.stop; alert = settings.alert };
  parts = parts;
  out = place;
})
task_in (GenerateCommand settings seed size) = Generate (record {
  search = record { page = settings.page; margin = settings.margin; plan = plan_of settings.plan };
  seed = seed;
  size = size;
})

-- the same of the command that words give
abbrev pub task_of : Result Command BadWord → Option Task
task_of (Ok command) = Some (task_in command)
task_of (Err bad) = None

-- what is looked for
abbrev pub search_in : Task → Search
search_in (Scan scan) = scan.search
search_in (Generate made) = made.search

-- the scan of an image that is there
abbrev pub scan_in : Task → Option ScanTask
scan_in (Scan scan) = Some scan
scan_in (Generate made) = None

abbrev pub scan_of : Result Command BadWord → Option ScanTask
scan_of command = option_and_then scan_in (task_of command)

-- the scan that the words of a call ask for
abbrev pub scan_asked : {A : Type 0} → List (String A) → Option ScanTask
scan_asked words = scan_of (command_of (texts words))

-- the patterns that are built for a task
abbrev pub patterns_in : Option Task → List (List ℕ)
patterns_in (Some task) = (search_in task).plan.patterns
patterns_in None = []

-- the patterns that the words of a call give
abbrev pub patterns_asked : {A : Type 0} → List (String A) → List (List ℕ)
patterns_asked words = patterns_in (task_of (command_of (texts words)))

-- what may be looked for, and in which pages
pub record IsSearch (search : Search) : Type 0 where
  pub plan : IsLawful search.plan
  pub few_patterns : length search.plan.patterns ≤ PATTERNS_MOST
  pub page : IsWithin page search.page
  pub margin : IsWithin margin search.margin

-- a scan of 1 to 64 parts
pub record IsScan (scan : ScanTask) : Type 0 where
  pub search : IsSearch scan.search
  pub some : 1 ≤ length scan.parts
  pub most : length scan.parts ≤ PARTS_MOST

-- such a scan, or an image that is made of at most 64 MiB
abbrev pub IsTask : Task → Type 0
IsTask (Scan scan) = IsScan scan
IsTask (Generate made) = IsSearch made.search × (made.size ≤ GENERATED_MOST)

-- ---- what isn't built

-- the first form of a command that isn't built
abbrev pub unbuilt_in : Command → Option Unbuilt
unbuilt_in (ScanCommand settings parts place) = if settings.with_log then Some Log else None
unbuilt_in (GenerateCommand settings seed size) = if settings.with_log then Some Log else None

-- the same of the command that words give
abbrev pub unbuilt_of : Result Command BadWord → Option Unbuilt
unbuilt_of (Ok command) = unbuilt_in command
unbuilt_of (Err bad) = None

-- ---- refusals

-- a refusal that the words cause: a bad one, or a form that isn't built; want of memory is free
abbrev pub IsWordsEnd : Result Command BadWord → Status → Type 0
IsWordsEnd command (Usage word why) = command ≡ Err (bad word why)
IsWordsEnd command (NotYet what) = unbuilt_of command ≡ Some what
IsWordsEnd command NoMemory = Unit {0}
IsWordsEnd command _ = ⊥
