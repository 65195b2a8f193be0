-- The text of a feature file: a header, and a line for each feature that stands in it.
use Rattle.std.specs.Prelude.{ℕ, ◌+◌, Bool, List, [], ◌∷◌, ◌++◌, codes, filter, flat_map, if◌then◌else◌}
use Rattle.byte_kit.specs.Classes.{is_one_of}
use Rattle.forensic_path.specs.Kinds.{number_of}
use Rattle.forensic_path.specs.PathText.{path_text_of}
use Rattle.forensic_path.specs.declared.path.Path.{Path}
use Rattle.forensic_path.specs.declared.feature.Class.{Class}
use Rattle.forensic_path.specs.declared.feature.Class.TheVariants.{Plain, Stopped, Alert}
use Rattle.forensic_path.specs.declared.feature.Classed.{Classed}
use Rattle.feature_escape.specs.Escape.{escape_of}
use Rattle.feature_file.specs.Files.{name_of, is_histogram}
use Rattle.feature_file.specs.declared.line.TheConstants.{ALERT_FILE, STOPPED_FILES}

-- the lines at the head of a feature file, each with its LF
abbrev pub feature_header : List ℕ → List ℕ
feature_header name = codes "# triage feature file, format 1\n# file: " ++ name ++ codes "\n# columns: path, feature, context\n"

-- those at the head of a histogram
abbrev pub histogram_header : List ℕ → List ℕ
histogram_header name = codes "# triage histogram, format 1\n# file: " ++ name ++ codes "\n"

-- the lines at the head of a report file
unfoldable pub header_of : ℕ → List ℕ
header_of number = if is_histogram number then histogram_header (name_of number) else feature_header (name_of number)

-- a feature's line: path, TAB, escaped feature, TAB, escaped context, without LF
unfoldable pub line_of : Path → List ℕ → List ℕ → List ℕ
line_of path feature context = path_text_of path ++ codes "\t" ++ escape_of feature ++ codes "\t" ++ escape_of context

abbrev pub line_text : Classed → List ℕ
line_text c = line_of c.item.path c.item.feature c.item.context ++ codes "\n"

-- the files that a feature of a kind's number has its line in: an alert stands in its kind's and in that of alerts
abbrev pub files_of : Class → ℕ → List ℕ
files_of Plain kind = kind ∷ []
files_of Stopped kind = (STOPPED_FILES + kind) ∷ []
files_of Alert kind = kind ∷ ALERT_FILE ∷ []

abbrev pub stands_in : ℕ → Classed → Bool
stands_in number c = is_one_of (files_of c.class (number_of c.item.kind)) number

-- the text of a feature file for a list of features: the header, and the lines in the list's order
unfoldable pub file_text : ℕ → List Classed → List ℕ
file_text number list = header_of number ++ flat_map line_text (filter (stands_in number) list)
