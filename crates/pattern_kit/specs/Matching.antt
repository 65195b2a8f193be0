-- What a matcher answers of the places of some bytes.
use Rattle.std.specs.Prelude.{◌≡◌, ℕ, ◌+◌, ◌<◌, List, length, take, drop, slice_index, Option, Some, None}
use Rattle.pattern_kit.specs.declared.TheConstants.{PATTERN_REACH}

-- the length of a match, and 0 where there is none
abbrev pub length_or_none : Option ℕ → ℕ
length_or_none None = 0
length_or_none (Some count) = count

-- The length of the match at a place. A pattern is a function from bytes to the length of its match at
-- their front; it sees the first at most 256 bytes from the place on, and none ahead of it.
unfoldable pub length_at : (List ℕ → Option ℕ) → List ℕ → ℕ → ℕ
length_at pattern bytes place = length_or_none (pattern (take PATTERN_REACH (drop place bytes)))

-- these are the lengths at the places from the first on
abbrev pub AreLengths : (List ℕ → Option ℕ) → List ℕ → ℕ → List ℕ → Type 0
AreLengths pattern bytes first lengths = (k : ℕ) → k < length lengths → slice_index lengths k ≡ length_at pattern bytes (first + k)
