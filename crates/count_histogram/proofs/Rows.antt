-- Histograms by example.
use Rattle.std.specs.Prelude.{◌≡◌, ℕ, List, [], ◌∷◌, ◌++◌, Some, is_some, map, filter, codes, refl}
use Rattle.std.specs.Fmt.{digits}
use Rattle.std.specs.List.{range_with_len}
use Rattle.byte_kit.specs.Classes.{printable_class}
use Rattle.forensic_path.specs.declared.feature.Class.{Class}
use Rattle.forensic_path.specs.declared.feature.Class.TheVariants.{Plain, Stopped, Alert}
use Rattle.forensic_path.specs.declared.feature.Kind.{Kind}
use Rattle.forensic_path.specs.declared.feature.Kind.TheVariants.{Url, Domain, Find}
use Rattle.forensic_path.specs.declared.feature.Classed.{Classed}
use Rattle.feature_escape.specs.Escape.{escape_of}
use Rattle.feature_file.specs.Files.{report_files, is_histogram}
use Rattle.feature_file.specs.FeatureFile.{header_of}
use Rattle.scan_url.specs.Url.{scheme_of}
use Rattle.count_histogram.specs.Rules.{rule_of, source_of, item_of}
use Rattle.count_histogram.specs.Histogram.{rows_of, row_line_of, histogram_text}
use Rattle.count_histogram.specs.declared.rule.Rule.TheVariants as rule

-- ---- rules

-- the files 21 to 26 have a rule each, and no other file has one
rules : map rule_of (range_with_len 21 6)
    ≡ Some rule.Url ∷ Some rule.Service ∷ Some rule.Domain ∷ Some rule.Ip ∷ Some rule.Ether ∷ Some rule.Find ∷ []
rules = refl

histograms : filter (λ number. is_some (rule_of number)) (range_with_len 0 40) ≡ filter is_histogram (range_with_len 0 40)
histograms = refl

-- the feature files that are counted
sources : map source_of (rule.Url ∷ rule.Service ∷ rule.Domain ∷ rule.Ip ∷ rule.Ether ∷ rule.Find ∷ []) ≡ 1 ∷ 1 ∷ 2 ∷ 3 ∷ 4 ∷ 7 ∷ []
sources = refl

-- ---- items

-- the service ends at the first of `/`, `?` and `#`, and is in lower case
services : map (item_of rule.Service) (codes "http://a.b/?u=http://c.d/" ∷ codes "HTTPS://Example.COM:80?q" ∷ codes "ftp://A#b" ∷ codes "http://a.b" ∷ [])
    ≡ codes "http://a.b" ∷ codes "https://example.com:80" ∷ codes "ftp://a" ∷ codes "http://a.b" ∷ []
unfolding scheme_of
services = refl

-- without one of the three schemes the scheme is empty
no_scheme : map (item_of rule.Service) (codes "Gopher://a.b/c" ∷ codes "/a" ∷ []) ≡ codes "gopher:" ∷ [] ∷ []
unfolding scheme_of
no_scheme = refl

-- a domain is counted in lower case, and every other feature as it is
other_items : map (λ by. item_of by (codes "A.b/C")) (rule.Url ∷ rule.Domain ∷ rule.Ip ∷ rule.Ether ∷ rule.Find ∷ [])
    ≡ codes "A.b/C" ∷ codes "a.b/c" ∷ codes "A.b/C" ∷ codes "A.b/C" ∷ codes "A.b/C" ∷ []
other_items = refl

-- ---- rows

-- the larger count is ahead, then the smaller bytes, of which a front of others is smaller
order : rows_of (codes "b" ∷ codes "ab" ∷ codes "z" ∷ codes "a" ∷ codes "z" ∷ codes "c" ∷ codes "B" ∷ codes "c" ∷ [])
    ≡ record { count = 2; item = codes "c" } ∷ record { count = 2; item = codes "z" } ∷ record { count = 1; item = codes "B" }
    ∷ record { count = 1; item = codes "a" } ∷ record { count = 1; item = codes "ab" } ∷ record { count = 1; item = codes "b" } ∷ []
unfolding rows_of
order = refl

-- a count is compared as a number, and bytes as they are and not as they are escaped
by_number : rows_of (map (λ byte. byte ∷ []) (200 ∷ 7 ∷ 200 ∷ 94 ∷ 200 ∷ 200 ∷ 200 ∷ 200 ∷ 200 ∷ 200 ∷ 200 ∷ 200 ∷ 7 ∷ 7 ∷ 97 ∷ []))
    ≡ record { count = 10; item = 200 ∷ [] } ∷ record { count = 3; item = 7 ∷ [] } ∷ record { count = 1; item = 94 ∷ [] }
    ∷ record { count = 1; item = 97 ∷ [] } ∷ []
unfolding rows_of
by_number = refl

escaped_item : row_line_of (record { count = 10; item = codes "a\\" ++ 200 ∷ [] }) ≡ codes "n=10\ta\\x5C\\xC8"
unfolding row_line_of digits escape_of printable_class
escaped_item = refl

-- ---- texts

-- a feature with its own bytes as context
abbrev found : Class → Kind → ℕ → List ℕ → Classed
found of_class of_kind top text = record {
  class = of_class;
  item = record { kind = of_kind; path = record { top = top; steps = [] }; feature = text; context = text };
}

-- the features of `http://a.b/?u=http://c.d/`
abbrev nested : List Classed
nested = found Plain Url 0 (codes "http://a.b/?u=http://c.d/") ∷ found Plain Domain 7 (codes "a.b") ∷ found Plain Url 14 (codes "http://c.d/")
    ∷ found Plain Domain 21 (codes "c.d") ∷ []

two_services : histogram_text 22 nested
    ≡ codes "# triage histogram, format 1\n# file: url_services_histogram.txt\nn=1\thttp://a.b\nn=1\thttp://c.d\n"
unfolding histogram_text rows_of row_line_of header_of report_files scheme_of digits escape_of printable_class
two_services = refl

-- what is stopped isn't counted, and alerts are
domains : histogram_text 23 (found Stopped Domain 0 (codes "a.b") ∷ found Alert Domain 9 (codes "C.d") ∷ found Plain Find 9 (codes "C")
    ∷ found Plain Domain 12 (codes "A.B") ∷ found Plain Domain 20 (codes "c.D") ∷ [])
    ≡ header_of 23 ++ codes "n=2\tc.d\nn=1\ta.b\n"
unfolding histogram_text rows_of row_line_of digits escape_of printable_class
domains = refl

-- without a feature of the kind there is the header alone
none_found : histogram_text 26 nested ≡ codes "# triage histogram, format 1\n# file: find_histogram.txt\n"
unfolding histogram_text rows_of header_of report_files
none_found = refl
