-- The lengths of patterns' matches at the places of a piece.
use Rattle.std.specs.Prelude.{◌≡◌, ℕ, ◌<◌, List, length, slice_index, slice_index_or, Option}
use Rattle.pattern_kit.specs.Matching.{AreLengths}
use Rattle.scan_find.specs.declared.lengths.Row.{Row}

-- the length at the place of this number
abbrev pub length_of : Row → ℕ → ℕ
length_of row number = slice_index row.lengths.items number

-- a row has the lengths of a pattern at so many places from the first on
pub record IsRow (pattern : List ℕ → Option ℕ) (bytes : List ℕ) (first count : ℕ) (row : Row) : Type 0 where
  pub long : length row.lengths.items ≡ count
  pub lengths : AreLengths pattern bytes first row.lengths.items

-- each pattern has its row
pub record AreRows (patterns : List (List ℕ → Option ℕ)) (bytes : List ℕ) (first count : ℕ) (rows : List Row) : Type 0 where
  pub many : length rows ≡ length patterns
  pub each : (k : ℕ) (pattern : List ℕ → Option ℕ) (row : Row) → k < length patterns →
      IsRow (slice_index_or patterns k pattern) bytes first count (slice_index_or rows k row)
