-- A status by its number and by the step of a scan at which it comes, and facts by its case.
use Rattle.std.specs.Prelude.{◌≡◌, ◌⊎◌, ℕ, ◌<◌, Result, Ok, Err}
use Rattle.triage_run.specs.declared.status.Status.{Status}
use Rattle.triage_run.specs.declared.status.Status.TheVariants.{Done, Usage, ListTooLong, ReadFault, PatternRefused, TooManyPages, DiskFault, OutFault, NoMemory, NotYet}
use Rattle.triage_run.specs.declared.status.List.TheVariants.{Stop, Alert}
use Rattle.triage_run.specs.declared.status.ReadPlace.TheVariants.{StopList, AlertList, Image, Page}
use Rattle.triage_run.specs.Steps.{any, words, form, stop_list, stop_size, alert_list, alert_size, build, attach, pages, mount, read, print, end}

-- the exit status
abbrev pub number_of : Status → ℕ
number_of Done = 0
number_of (Usage word why) = 2
number_of (ListTooLong list bytes) = 3
number_of (ReadFault place) = 4
number_of (PatternRefused index) = 5
number_of (TooManyPages count) = 7
number_of DiskFault = 8
number_of OutFault = 13
number_of NoMemory = 14
number_of (NotYet what) = 15

-- the first step at which a scan may end so
abbrev pub step_of : Status → ℕ
step_of NoMemory = any
step_of (Usage word why) = words
step_of (NotYet what) = form
step_of (ReadFault StopList) = stop_list
step_of (ListTooLong Stop bytes) = stop_size
step_of (ReadFault AlertList) = alert_list
step_of (ListTooLong Alert bytes) = alert_size
step_of (PatternRefused index) = build
step_of (ReadFault Image) = attach
step_of (TooManyPages count) = pages
step_of DiskFault = mount
step_of (ReadFault (Page page)) = read
step_of OutFault = print
step_of Done = end

-- the call ended so, or at an earlier step, whose refusal hides this one
abbrev pub IsOrEarlier : Status → Status → Type 0
IsOrEarlier said status = (status ≡ said) ⊎ (step_of status < step_of said)

-- the call ended ahead of the step
abbrev pub IsAheadOf : ℕ → Status → Type 0
IsAheadOf step status = (any < step_of status) × (step_of status < step)

-- the call ended behind the step
abbrev pub IsBehind : ℕ → Status → Type 0
IsBehind step status = step < step_of status

-- what holds where the call was done
abbrev pub IfDone : Status → Type 0 → Type 0
IfDone Done P = P
IfDone _ P = Unit {0}

-- what holds where the call ended with a fault of reading
abbrev pub IfReadFault : Status → Type 0 → Type 0
IfReadFault (ReadFault place) P = P
IfReadFault _ P = Unit {0}

-- a status that is answered ahead of the text
abbrev pub IsRefusal : Status → Type 0
IsRefusal Done = ⊥
IsRefusal OutFault = ⊥
IsRefusal _ = Unit {0}

-- the status of a scan ahead of its text: done, or its refusal
abbrev pub scanned_as : {T : Type 0} → Result T Status → Status
scanned_as (Ok found) = Done
scanned_as (Err refusal) = refusal

-- a call whose scan ended so ended so too; or the scan was done, and its text wanted memory or met a sink whose count rose
abbrev pub EndsAs : Type 0 → Status → Status → Type 0
EndsAs sink_rose scanned status =
    (status ≡ scanned) ⊎ ((scanned ≡ Done) × ((status ≡ NoMemory) ⊎ ((status ≡ OutFault) × sink_rose)))

abbrev pub IsDoneOrNoMemory : Status → Type 0
IsDoneOrNoMemory status = (status ≡ Done) ⊎ (status ≡ NoMemory)
