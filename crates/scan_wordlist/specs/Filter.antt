-- Where a search looks closer.
use Rattle.std.specs.Prelude.{◌≡◌, ℕ, ◌+◌, ◌-◌, ◌%◌, ◌^◌, ◌<◌, ◌≤◌, Bool, true, not, nat_le, List, drop, slice_index}
use Rattle.std.specs.List.{prefix_len}
use Rattle.byte_kit.specs.Classes.{word_class}

-- at least so many word bytes stand in a row from the place on
unfoldable pub begins_row : ℕ → List ℕ → ℕ → Bool
begins_row count bytes place = nat_le count (prefix_len word_class (drop place bytes))

-- the byte at the place isn't of a word
unfoldable pub is_stranger : List ℕ → ℕ → Bool
is_stranger bytes place = not (word_class (slice_index bytes place))

-- how far behind 33, the first byte of a word, a byte stands; those ahead of it follow 255
abbrev pub behind_first : ℕ → ℕ
behind_first byte = (byte + (2 ^ 8 - 33)) % 2 ^ 8

-- a word byte stands right ahead of each place from the first up to the end
abbrev pub AreInside : List ℕ → ℕ → ℕ → Type 0
AreInside bytes first end = (place : ℕ) → first ≤ place → place < end → (0 < place) × (word_class (slice_index bytes (place - 1)) ≡ true)
