-- Feature files by example.
use Rattle.std.specs.Prelude.{◌≡◌, ℕ, ◌^◌, List, [], ◌∷◌, ◌++◌, map, codes, filter, Some, None, is_some, refl}
use Rattle.std.specs.Fmt.{digits}
use Rattle.std.specs.List.{range_with_len}
use Rattle.byte_kit.specs.Classes.{printable_class}
use Rattle.forensic_path.specs.PathText.{path_text_of}
use Rattle.forensic_path.specs.declared.path.Decoder.TheVariants.{Base64}
use Rattle.forensic_path.specs.declared.feature.Class.{Class}
use Rattle.forensic_path.specs.declared.feature.Class.TheVariants.{Plain, Stopped, Alert}
use Rattle.forensic_path.specs.declared.feature.Kind.{Kind}
use Rattle.forensic_path.specs.declared.feature.Kind.TheVariants.{Url, Domain, Find}
use Rattle.forensic_path.specs.declared.feature.Classed.{Classed}
use Rattle.feature_escape.specs.Escape.{escape_of}
use Rattle.feature_file.specs.Files.{report_files, file_name_of, is_written}
use Rattle.feature_file.specs.FeatureFile.{header_of, line_of, line_text, file_text}

-- ---- files

-- no number but these has a name
named : filter (λ number. is_some (file_name_of number)) (range_with_len 0 40)
    ≡ range_with_len 0 10 ++ range_with_len 11 8 ++ range_with_len 21 6
unfolding report_files
named = refl

names : map file_name_of (0 ∷ 8 ∷ 9 ∷ 10 ∷ 18 ∷ 22 ∷ 27 ∷ [])
    ≡ Some (codes "spool.bin") ∷ Some (codes "wordlist.txt") ∷ Some (codes "alerts.txt") ∷ None
    ∷ Some (codes "wordlist_stopped.txt") ∷ Some (codes "url_services_histogram.txt") ∷ None ∷ []
unfolding report_files
names = refl

-- what is written for each scanner alone, in the order of their bits
for_each : map (λ bit. filter (λ number. is_written number (2 ^ bit)) (range_with_len 0 40)) (range_with_len 0 10)
    ≡ (0 ∷ 1 ∷ 9 ∷ 11 ∷ 21 ∷ 22 ∷ []) ∷ (0 ∷ 2 ∷ 9 ∷ 12 ∷ 23 ∷ []) ∷ (0 ∷ 3 ∷ 4 ∷ 9 ∷ 13 ∷ 14 ∷ 24 ∷ 25 ∷ [])
    ∷ (0 ∷ 5 ∷ 9 ∷ 15 ∷ []) ∷ (0 ∷ 6 ∷ 9 ∷ 16 ∷ []) ∷ (0 ∷ 7 ∷ 9 ∷ 17 ∷ 26 ∷ []) ∷ (0 ∷ 8 ∷ 9 ∷ 18 ∷ [])
    ∷ (0 ∷ 9 ∷ []) ∷ (0 ∷ 9 ∷ []) ∷ (0 ∷ 9 ∷ []) ∷ []
unfolding report_files
for_each = refl

-- what is written for the scanners that are on by default, which are all but the words
by_default : filter (λ number. is_written number 959) (range_with_len 0 40)
    ≡ range_with_len 0 8 ++ 9 ∷ [] ++ range_with_len 11 7 ++ range_with_len 21 6
unfolding report_files
by_default = refl

-- a feature with its own bytes as context
abbrev found : Class → Kind → ℕ → List ℕ → Classed
found of_class of_kind top text = record {
  class = of_class;
  item = record { kind = of_kind; path = record { top = top; steps = [] }; feature = text; context = text };
}

-- ---- headers and lines

url_header : header_of 1 ≡ codes "# triage feature file, format 1\n# file: url.txt\n# columns: path, feature, context\n"
unfolding header_of report_files
url_header = refl

histogram_header : header_of 22 ≡ codes "# triage histogram, format 1\n# file: url_services_histogram.txt\n"
unfolding header_of report_files
histogram_header = refl

-- a TAB is the byte 9, and a line in a file ends with the byte 10
plain_line : line_text (found Plain Url 4 (codes "a")) ≡ 52 ∷ 9 ∷ 97 ∷ 9 ∷ 97 ∷ 10 ∷ []
unfolding line_of path_text_of digits escape_of printable_class
plain_line = refl

-- the TABs are bare, and those of feature and context are escaped
escaped_line : line_of (record { top = 100; steps = record { by = Base64; at = 7 } ∷ [] }) (codes "a\\b") (codes "\ta\\b\n" ++ 200 ∷ [])
    ≡ codes "100-BASE64-7\ta\\x5Cb\t\\x09a\\x5Cb\\x0A\\xC8"
unfolding line_of path_text_of digits escape_of printable_class
escaped_line = refl

-- ---- texts

-- a stopped URL, an alert and two plain features
abbrev four : List Classed
four = found Stopped Url 4 (codes "http://a.b") ∷ found Alert Domain 11 (codes "a.b") ∷ found Plain Url 20 (codes "ftp://c")
    ∷ found Plain Find 20 (codes "ftp") ∷ []

-- the stopped URL isn't in the file of its kind
urls : file_text 1 four ≡ header_of 1 ++ codes "20\tftp://c\tftp://c\n"
unfolding file_text line_of path_text_of digits escape_of printable_class
urls = refl

stopped_urls : file_text 11 four
    ≡ codes "# triage feature file, format 1\n# file: url_stopped.txt\n# columns: path, feature, context\n4\thttp://a.b\thttp://a.b\n"
unfolding file_text header_of report_files line_of path_text_of digits escape_of printable_class
stopped_urls = refl

-- the alert stands in the alerts and in the file of its kind
alerts : map (λ number. file_text number four) (9 ∷ 2 ∷ 12 ∷ [])
    ≡ (header_of 9 ++ codes "11\ta.b\ta.b\n") ∷ (header_of 2 ++ codes "11\ta.b\ta.b\n") ∷ header_of 12 ∷ []
unfolding file_text header_of report_files line_of path_text_of digits escape_of printable_class
alerts = refl
