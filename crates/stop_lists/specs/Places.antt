-- Where the bytes of entries stand in one run of bytes.
use Rattle.std.specs.Prelude.{ℕ, ◌+◌, ◌≤◌, Bool, true, false, ◌&&◌, Option, Some, None, List, length, take, drop, option_map, unwrap_or, bytes_eq}
use Rattle.stop_lists.specs.declared.entries.Place.{Place}
use Rattle.stop_lists.specs.Lists.{Entry}

-- the entry at a place: its feature, and behind it its context where it has one
abbrev pub entry_at : List ℕ → Place → Entry
entry_at bytes p = record {
  feature = take p.feature (drop p.start bytes);
  context = option_map (λ count. take count (drop p.feature (drop p.start bytes))) p.context;
}

-- the place's bytes are there
abbrev pub IsWithin : List ℕ → Place → Type 0
IsWithin bytes p = p.start + p.feature + unwrap_or p.context 0 ≤ length bytes

-- the two are equal, or there is neither
abbrev pub same_context : Option (List ℕ) → Option (List ℕ) → Bool
same_context None None = true
same_context None (Some wanted) = false
same_context (Some held) None = false
same_context (Some held) (Some wanted) = bytes_eq held wanted

-- the entry is the one of this feature, with this context or with none
abbrev pub is_entry : List ℕ → Option (List ℕ) → Entry → Bool
is_entry feature context entry = bytes_eq entry.feature feature && same_context entry.context context
