-- A table of slots in which entries are found by their hashes: each stands in the slot of its bucket, or
-- behind it with no empty slot between. Entries are numbered from 1 on, and an empty slot has the number 0.
use Rattle.std.specs.Prelude.{ℕ, ◌≡◌, ◌≢◌, ◌+◌, ◌<◌, ◌≤◌, List, length, slice_index_or}
use Rattle.stop_lists.specs.declared.buckets.Slot.{Slot}
use Rattle.stop_lists.specs.Lists.{Entry}
use Rattle.stop_lists.specs.Hash.{entry_hash, home_of}

-- a slot, and an empty one past the end
abbrev pub slot_at : List Slot → ℕ → Slot
slot_at slots at = slice_index_or slots at (record { hash = 0; number = 0 })

-- no slot of the range is empty
abbrev pub AreTaken : List Slot → ℕ → ℕ → Type 0
AreTaken slots from to = (at : ℕ) → from ≤ at → at < to → 0 < (slot_at slots at).number

-- the first empty slot from a bucket on, the end of the table counted as one
pub record IsFirstEmpty (slots : List Slot) (home at : ℕ) : Type 0 where
  pub from_home : home ≤ at
  pub within : at ≤ length slots
  pub empty : (slot_at slots at).number ≡ 0
  pub before : AreTaken slots home at

-- an entry of this number and hash is found from its bucket on
pub record IsFound (slots : List Slot) (home hash number : ℕ) : Type 0 where
  pub at : ℕ
  pub from_home : home ≤ at
  pub hash_is : (slot_at slots at).hash ≡ hash
  pub number_is : (slot_at slots at).number ≡ number
  pub before : AreTaken slots home at

-- the slot is put where an empty one was, or at the end, and all others stay
pub record IsPut (old new : List Slot) (at : ℕ) (slot : Slot) : Type 0 where
  pub long : length old ≤ length new
  pub here : slot_at new at ≡ slot
  pub others : (k : ℕ) → k ≢ at → slot_at new k ≡ slot_at old k

-- no slot has a number above this one
abbrev pub HasNumbersTo : List Slot → ℕ → Type 0
HasNumbersTo slots most = (at : ℕ) → (slot_at slots at).number ≤ most

-- each of the first entries is found from the bucket of its hash on, among so many buckets
abbrev pub AreFound : List Entry → ℕ → List Slot → ℕ → Type 0
AreFound entries count slots below =
    (k : ℕ) (d : Entry) → k < below
    → IsFound slots (home_of (entry_hash (slice_index_or entries k d)) count) (entry_hash (slice_index_or entries k d)) (k + 1)

-- a table of entries, with so many buckets
pub record IsTable (entries : List Entry) (count : ℕ) (slots : List Slot) : Type 0 where
  pub some : 0 < length entries → 0 < count
  pub room : count ≤ length slots
  pub numbers : HasNumbersTo slots (length entries)
  pub found : AreFound entries count slots (length entries)
