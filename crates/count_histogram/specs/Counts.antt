-- How often items were added, and the rows that say so.
use Rattle.std.specs.Prelude.{ℕ, ◌≡◌, ◌<◌, List, [], ◌∷◌, map, Vec, count_by, bytes_eq, if◌then◌else◌}
use Rattle.std.specs.List.{All, IsDistinct}
use Rattle.std.specs.Map.{values_of}
use Rattle.count_histogram.specs.declared.row.Row.{Row}

-- the count of an item in rows, 0 where it has none
abbrev pub count_in : List Row → List ℕ → ℕ
count_in [] item = 0
count_in (row ∷ rows) item = if bytes_eq item row.item then row.count else count_in rows item

-- the rows say how often each item stands in a list
abbrev pub AreCounts : List Row → List (List ℕ) → Type 0
AreCounts rows items = (item : List ℕ) → count_in rows item ≡ count_by (bytes_eq item) items

-- the rows of items that are kept with their counts
abbrev pub rows_kept : {Z : Type 0} → List (Vec ℕ Z × ℕ) → List Row
rows_kept entries = map (λ entry. record { count = entry.1; item = entry.0.items }) entries

-- each item that is kept was added
abbrev pub AreAdded : {Z : Type 0} → List (Vec ℕ Z × ℕ) → Type 0
AreAdded entries = All (λ count. 0 < count) (values_of entries)

-- each item has one row, and was added
pub record IsTally (rows : List Row) : Type 0 where
  pub once : IsDistinct bytes_eq (map (λ row. row.item) rows)
  pub added : All (λ row. 0 < row.count) rows
