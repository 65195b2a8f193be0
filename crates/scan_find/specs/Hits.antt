-- Which places of a piece are hit: those whose number isn't 0. A place that isn't hit has no mark.
use Rattle.std.specs.Prelude.{◌≡◌, ℕ, ◌+◌, ◌<◌, List, length, slice_index, slice_index_or, None}
use Rattle.sbuf_nest.specs.Around.{look_at}
use Rattle.scan_find.specs.Find.{keyword_of}
use Rattle.scan_find.specs.Lengths.{length_of}
use Rattle.scan_find.specs.declared.lengths.Row.{Row}

-- what was hit stays so
abbrev pub HitsMore : List ℕ → List ℕ → Type 0
HitsMore old new = (k : ℕ) → k < length old → slice_index new k ≡ 0 → slice_index old k ≡ 0

-- at a place that isn't hit, of so many from the first on, no keyword stands
abbrev pub HitsKeywords : List (List ℕ) → List ℕ → ℕ → ℕ → List ℕ → Type 0
HitsKeywords keywords bytes first count hits =
    (k which : ℕ) (d : List ℕ) → k < count → which < length keywords → slice_index hits k ≡ 0 →
    keyword_of (slice_index_or keywords which d) (look_at bytes (first + k)) ≡ None

-- at a place that isn't hit the row has no length
abbrev pub HitsRow : Row → List ℕ → Type 0
HitsRow row hits = (k : ℕ) → k < length hits → slice_index hits k ≡ 0 → length_of row k ≡ 0

-- nor has any of the first few rows
abbrev pub HitsRows : List Row → ℕ → List ℕ → Type 0
HitsRows rows few hits = (k : ℕ) (d : Row) → k < few → HitsRow (slice_index_or rows k d) hits

-- so many places from the first on, of which those that aren't hit have no mark
pub record AreHits (keywords : List (List ℕ)) (bytes : List ℕ) (first count : ℕ) (lengths : List Row) (hits : List ℕ) : Type 0 where
  pub long : length hits ≡ count
  pub words : HitsKeywords keywords bytes first count hits
  pub rows : HitsRows lengths (length lengths) hits
