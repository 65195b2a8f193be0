-- What a source in memory holds: entries of a name and its bytes, and for a slot the place of an entry.
use Rattle.std.specs.Prelude.{◌≡◌, ◌≢◌, ℕ, ◌<◌, Bool, true, List, length, Option, Some, None, option_and_then, option_map, find, slice_get, slice_index_or}
use Rattle.std.specs.Str.{bytes_eq}
use Rattle.std.specs.List.{AllPairs}
use Rattle.host_source.specs.declared.entry.Entry.{Entry}
use Rattle.host_source.specs.Source.{Slot, SourceNature}

-- the entry has this name
abbrev pub is_named : List ℕ → Entry → Bool
is_named name entry = bytes_eq name entry.name

-- what the entries hold under a name
abbrev pub held_in : List Entry → List ℕ → Option (List ℕ)
held_in entries name = option_map (λ e. e.bytes) (find (is_named name) entries)

-- the entries as a source: it tells what they hold, and may be asked for every name
abbrev pub nature_of : List Entry → SourceNature
nature_of entries = record { held = Some (held_in entries); may_attach = λ _. true }

-- an entry's name and size
abbrev pub slot_of : Entry → Slot
slot_of entry = record { name = entry.name; size = length entry.bytes }

-- what each slot has attached: the entry at the slot's place
abbrev pub slots_in : List Entry → List (Option ℕ) → ℕ → Option Slot
slots_in entries places slot =
    option_and_then (λ place. option_map slot_of (slice_get entries place)) (slice_index_or places slot None)

-- no two entries share a name
abbrev pub AreApart : List Entry → Type 0
AreApart entries = AllPairs (λ a b. a.name ≢ b.name) entries

-- each slot's place is that of an entry
abbrev pub PointInside : List Entry → List (Option ℕ) → Type 0
PointInside entries places = (slot place : ℕ) → slice_index_or places slot None ≡ Some place → place < length entries
