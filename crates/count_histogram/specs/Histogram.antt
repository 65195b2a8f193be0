-- The text of a histogram: a header, and a row for each item that features have.
use Rattle.std.specs.Prelude.{ℕ, Bool, List, [], ◌∷◌, ◌++◌, Option, Some, None, map, codes, filter, flat_map, count_by, bytes_eq, nat_lt, ◌&&◌, ◌||◌, ◌==◌, if◌then◌else◌}
use Rattle.std.specs.List.{list_any}
use Rattle.std.specs.Ordering.{is_lt, nat_cmp}
use Rattle.std.specs.Cmp.Lexicographic.{slice_cmp}
use Rattle.std.specs.Fmt.{decimal}
use Rattle.forensic_path.specs.declared.feature.Classed.{Classed}
use Rattle.feature_escape.specs.Escape.{escape_of}
use Rattle.feature_file.specs.FeatureFile.{header_of, stands_in}
use Rattle.count_histogram.specs.Rules.{rule_of, source_of, item_of}
use Rattle.count_histogram.specs.declared.rule.Rule.{Rule}
use Rattle.count_histogram.specs.declared.row.Row.{Row}

-- ---- what is counted

-- the items of the features of a rule's kind that aren't stopped, in the list's order; a file that is no histogram has none
abbrev pub items_of : Option Rule → List Classed → List (List ℕ)
items_of (Some rule) list = map (λ (c : Classed). item_of rule c.item.feature) (filter (stands_in (source_of rule)) list)
items_of None list = []

-- ---- the rows

-- each item once
abbrev pub distinct : List (List ℕ) → List (List ℕ)
distinct [] = []
distinct (item ∷ items) = if list_any (bytes_eq item) items then distinct items else item ∷ distinct items

-- the larger count is ahead, and of equal counts the smaller bytes
abbrev pub is_ahead : Row → Row → Bool
is_ahead a b = nat_lt b.count a.count || ((a.count == b.count) && is_lt (slice_cmp nat_cmp a.item b.item))

-- rows in order, with one more in its place
abbrev pub placed : Row → List Row → List Row
placed row [] = row ∷ []
placed row (first ∷ rows) = if is_ahead row first then row ∷ first ∷ rows else first ∷ placed row rows

abbrev pub in_order : List Row → List Row
in_order [] = []
in_order (row ∷ rows) = placed row (in_order rows)

-- a row for each distinct item with the number of its copies, in order
unfoldable pub rows_of : List (List ℕ) → List Row
rows_of items = in_order (map (λ item. record { count = count_by (bytes_eq item) items; item = item }) (distinct items))

-- ---- the text

-- a row's line: `n=`, the count in decimal, TAB, and the escaped item, without LF
unfoldable pub row_line_of : Row → List ℕ
row_line_of row = codes "n=" ++ decimal row.count ++ codes "\t" ++ escape_of row.item

-- the text of a histogram's file for a list of features
unfoldable pub histogram_text : ℕ → List Classed → List ℕ
histogram_text number list =
    header_of number ++ flat_map (λ row. row_line_of row ++ codes "\n") (rows_of (items_of (rule_of number) list))
