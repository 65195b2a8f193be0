-- The lists of a scan: where they are attached, what they hold, and how their reading ends.
use Rattle.std.specs.Prelude.{◌≡◌, ℕ, zero, suc, List, [], Option, Some, None, IfSome, IsSomeAnd, IsTrue}
use Rattle.forensic_path.specs.declared.feature.Feature.{Feature}
use Rattle.forensic_path.specs.declared.feature.Classed.{Classed}
use Rattle.host_source.specs.Source.{SourceNature, Slot, IsDetached, told}
use Rattle.stop_lists.specs.Lists.{ListEntries, class_under, entries_of}
use Rattle.triage_run.specs.declared.lists.TheConstants.{LIST_MOST}
use Rattle.triage_run.specs.declared.status.List.{List as ListName}
use Rattle.triage_run.specs.declared.status.List.TheVariants.{Stop, Alert}
use Rattle.triage_run.specs.declared.status.ReadPlace.{ReadPlace}
use Rattle.triage_run.specs.declared.status.ReadPlace.TheVariants.{StopList, AlertList}
use Rattle.triage_run.specs.declared.status.Status.{Status}
use Rattle.triage_run.specs.declared.status.Status.TheVariants.{ListTooLong, ReadFault, NoMemory}
use Rattle.triage_run.specs.declared.words.ListNames.{ListNames}
use Rattle.triage_run.specs.declared.words.Scan.{Scan}
use Rattle.triage_run.specs.Sizes.{Fits, IsSizeAbove}

-- ---- names and slots

abbrev pub slot_of : ListName → ℕ
slot_of Stop = 0
slot_of Alert = 1

-- what a source of lists failed to give
abbrev pub place_of : ListName → ReadPlace
place_of Stop = StopList
place_of Alert = AlertList

-- the name of a list, where it is given
abbrev pub name_of : ListNames → ListName → Option (List ℕ)
name_of names Stop = names.stop
name_of names Alert = names.alert

-- the name of the list that belongs to a slot
abbrev pub name_at : ListNames → ℕ → Option (List ℕ)
name_at names zero = names.stop
name_at names (suc zero) = names.alert
name_at names (suc (suc slot)) = None

-- the lists that a scan names
abbrev pub lists_of : Option Scan → ListNames
lists_of (Some scan) = scan.lists
lists_of None = record { stop = None; alert = None }

-- nothing is attached, and the lists that the words name may be asked for
pub record AreReady (nature : SourceNature) (slots : ℕ → Option Slot) (names : ListNames) : Type 0 where
  pub detached : IsDetached slots
  pub asked : (list : ListName) → IfSome (name_of names list) (λ name. IsTrue (nature.may_attach name))

-- nothing is attached but each list to its slot
abbrev pub OnlyLists : ListNames → (ℕ → Option Slot) → Type 0
OnlyLists names slots = (slot : ℕ) → IfSome (slots slot) (λ s. name_at names slot ≡ Some s.name)

-- each list that is named is attached to its slot
abbrev pub AreListed : ListNames → (ℕ → Option Slot) → Type 0
AreListed names slots = (list : ListName) → IfSome (name_of names list) (λ name. IsSomeAnd (slots (slot_of list)) (λ s. s.name ≡ name))

-- ---- what the lists hold

-- the bytes of a list, where they are told; one that isn't named has none
abbrev pub bytes_told : SourceNature → Option (List ℕ) → Option (List ℕ)
bytes_told nature None = Some []
bytes_told nature (Some name) = told nature name

-- the bytes of a scan's list
abbrev pub list_told : SourceNature → ListNames → ListName → Option (List ℕ)
list_told nature names list = bytes_told nature (name_of names list)

-- the entries are those of the bytes, where these are told
pub record AreEntries (told : ListName → Option (List ℕ)) (lists : ListEntries) : Type 0 where
  pub stop : IfSome (told Stop) (λ bytes. lists.stop ≡ entries_of bytes)
  pub alert : IfSome (told Alert) (λ bytes. lists.alert ≡ entries_of bytes)

-- a feature with its class by the entries of both lists
abbrev pub classed_under : ListEntries → Feature → Classed
classed_under lists f = record { class = class_under lists.stop lists.alert f.feature f.context; item = f }

-- ---- refusals

-- what one list is refused for, by its bytes, where they are told, and by its slot; want of memory is free
abbrev pub IsListEnd : ListName → Option (List ℕ) → Option Slot → Type 0 → Status → Type 0
IsListEnd list told slot rose (ListTooLong which size) = (which ≡ list) × IsSizeAbove LIST_MOST told slot size
IsListEnd list told slot rose (ReadFault place) = (place ≡ place_of list) × rose
IsListEnd list told slot rose NoMemory = Unit {0}
IsListEnd list told slot rose _ = ⊥

-- the bytes that are told of a list, or else those of its slot, are no more than are read
abbrev pub ListFits : (ListName → Option (List ℕ)) → (ℕ → Option Slot) → ListName → Type 0
ListFits told slots list = Fits LIST_MOST (told list) (slots (slot_of list))

-- what the lists are refused for: the stop list comes first
abbrev pub IsListsEnd : (ListName → Option (List ℕ)) → (ℕ → Option Slot) → Type 0 → Status → Type 0
IsListsEnd told slots rose (ListTooLong Stop size) = IsSizeAbove LIST_MOST (told Stop) (slots 0) size
IsListsEnd told slots rose (ListTooLong Alert size) = IsSizeAbove LIST_MOST (told Alert) (slots 1) size × ListFits told slots Stop
IsListsEnd told slots rose (ReadFault StopList) = rose
IsListsEnd told slots rose (ReadFault AlertList) = rose × ListFits told slots Stop
IsListsEnd told slots rose NoMemory = Unit {0}
IsListsEnd told slots rose _ = ⊥
