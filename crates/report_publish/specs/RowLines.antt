-- The lines of a histogram's rows.
use Rattle.std.specs.Prelude.{ℕ, List, ◌++◌, codes, flat_map}
use Rattle.count_histogram.specs.declared.row.Row.{Row}
use Rattle.count_histogram.specs.Histogram.{row_line_of}

-- the line of a row with its LF
abbrev pub row_text : Row → List ℕ
row_text row = row_line_of row ++ codes "\n"

-- the lines of rows, one after another
abbrev pub rows_text : List Row → List ℕ
rows_text rows = flat_map row_text rows
