-- The keywords that begin with the same byte, one behind the other.
use Rattle.std.specs.Prelude.{◌≡◌, ◌≢◌, ℕ, ◌+◌, ◌<◌, ◌≤◌, List, length, slice_index, slice_index_or}

-- no keyword from this index on, up to the end, begins with the byte
abbrev pub NoneWith : List (List ℕ) → ℕ → ℕ → ℕ → Type 0
NoneWith keywords byte from end = (k : ℕ) (d : List ℕ) → from ≤ k → k < end → slice_index (slice_index_or keywords k d) 0 ≢ byte

-- the next index, from the first on, is that of the next keyword that begins with the byte, or the end of the list
pub record IsNextWith (keywords : List (List ℕ)) (byte from next : ℕ) : Type 0 where
  pub low : from ≤ next
  pub high : next ≤ length keywords
  pub none : NoneWith keywords byte from next
  pub begins : (d : List ℕ) → next < length keywords → slice_index (slice_index_or keywords next d) 0 ≡ byte

-- for each byte the first keyword with it, and for each keyword the next one with its first byte
pub record AreChained (keywords : List (List ℕ)) (heads nexts : List ℕ) : Type 0 where
  pub first : (byte : ℕ) → byte < 256 → IsNextWith keywords byte 0 (slice_index heads byte)
  pub next : (k : ℕ) (d : List ℕ) → k < length keywords →
      IsNextWith keywords (slice_index (slice_index_or keywords k d) 0) (k + 1) (slice_index nexts k)
