-- Worked rows of whole report files, as laws that compute.
use Rattle.std.specs.Prelude.{◌≡◌, ℕ, List, [], ◌∷◌, ◌++◌, ◌==◌, codes, Option, Some, None, refl, if◌then◌else◌}
use Rattle.scan_set.specs.declared.plan.ScanPlan.{ScanPlan}
use Rattle.std.specs.List.{prefix_len}
use Rattle.scan_set.proofs.Shown.{shown}
use Rattle.feature_escape.specs.Escape.{escape_of, unescape_lenient_of}
use Rattle.stop_lists.specs.Lists.{entries_of, class_under}
use Rattle.feature_file.specs.Files.{report_files}
use Rattle.feature_file.specs.FeatureFile.{header_of, line_of, file_text}
use Rattle.count_histogram.specs.Histogram.{rows_of, row_line_of, histogram_text}
use Rattle.triage_run.specs.Case.{classed_of, report}

-- every scanner but that of words, as a scan has them by default
abbrev default_plan : ScanPlan
default_plan = record { scanners = 0x03BF; depth = 5; mask = 0; word_min = 6; word_max = 14; context = 16; keywords = []; patterns = [] }

-- a pattern is plain data here: how long its match is
abbrev is_match : (List ℕ → Option ℕ) → List ℕ → Option ℕ
is_match pattern = pattern

-- a report file of an image under a stop list and an alert list
unfoldable file_under : List ℕ → List ℕ → List ℕ → ℕ → Option (List ℕ)
unfolding shown escape_of unescape_lenient_of entries_of class_under report_files header_of line_of file_text rows_of row_line_of histogram_text classed_of report
file_under stop alert image number =
    report is_match (record { image = image; stop = stop; alert = alert; page = 16777216; plan = default_plan; readings = [] }) number

-- ---- without lists

-- one `a` or more
abbrev run_of_a : List ℕ → Option ℕ
run_of_a bytes =
    let run = prefix_len (λ byte. byte == 97) bytes in
    if run == 0 then None else Some run

-- what stands in `find.txt` for an image with one keyword and that pattern
unfoldable found_file : List ℕ → List ℕ → Option (List ℕ)
unfolding shown escape_of entries_of class_under report_files header_of line_of file_text classed_of report
found_file keyword image = report is_match (record {
  image = image;
  stop = [];
  alert = [];
  page = 16777216;
  plan = record default_plan { keywords = keyword ∷ []; patterns = codes "a+" ∷ [] };
  readings = run_of_a ∷ [];
}) 7

a_url_with_its_context : file_under [] [] (codes "see http://example.com/a b") 1
    ≡ Some (codes "# triage feature file, format 1\n# file: url.txt\n# columns: path, feature, context\n4\thttp://example.com/a\tsee http://example.com/a b\n")
unfolding file_under
a_url_with_its_context = refl

a_domain_at_its_own_place : file_under [] [] (codes "see http://example.com/a b") 2
    ≡ Some (codes "# triage feature file, format 1\n# file: domain.txt\n# columns: path, feature, context\n11\texample.com\tsee http://example.com/a b\n")
unfolding file_under
a_domain_at_its_own_place = refl

an_empty_image_has_the_header_alone : file_under [] [] [] 1
    ≡ Some (codes "# triage feature file, format 1\n# file: url.txt\n# columns: path, feature, context\n")
unfolding file_under
an_empty_image_has_the_header_alone = refl

a_context_is_cut_at_16_bytes : file_under [] [] (codes "http://a.b/?u=http://c.d/") 2
    ≡ Some (codes "# triage feature file, format 1\n# file: domain.txt\n# columns: path, feature, context\n7\ta.b\thttp://a.b/?u=http://c.d/\n21\tc.d\t//a.b/?u=http://c.d/\n")
unfolding file_under
a_context_is_cut_at_16_bytes = refl

a_url_in_a_url_has_a_line_of_its_own : file_under [] [] (codes "http://a.b/?u=http://c.d/") 1
    ≡ Some (codes "# triage feature file, format 1\n# file: url.txt\n# columns: path, feature, context\n0\thttp://a.b/?u=http://c.d/\thttp://a.b/?u=http://c.d/\n14\thttp://c.d/\thttp://a.b/?u=http://c.d/\n")
unfolding file_under
a_url_in_a_url_has_a_line_of_its_own = refl

a_context_is_escaped : file_under [] [] (9 ∷ codes "ftp://a" ++ 255 ∷ []) 1
    ≡ Some (codes "# triage feature file, format 1\n# file: url.txt\n# columns: path, feature, context\n1\tftp://a\t\\x09ftp://a\\xFF\n")
unfolding file_under
a_context_is_escaped = refl

-- the source and then the destination, each in a line
an_ipv4_header_has_two_lines : file_under [] [] (0x45 ∷ 0x00 ∷ 0x00 ∷ 0x73 ∷ 0x00 ∷ 0x00 ∷ 0x40 ∷ 0x00 ∷ 0x40 ∷ 0x11 ∷ 0xb8 ∷ 0x61 ∷ 0xc0 ∷ 0xa8 ∷ 0x00 ∷ 0x01 ∷ 0xc0 ∷ 0xa8 ∷ 0x00 ∷ 0xc7 ∷ []) 3
    ≡ Some (codes "# triage feature file, format 1\n# file: ip.txt\n# columns: path, feature, context\n0\t192.168.0.1\tE\\x00\\x00s\\x00\\x00@\\x00@\\x11\\xB8a\\xC0\\xA8\\x00\\x01\\xC0\\xA8\\x00\\xC7\n0\t192.168.0.199\tE\\x00\\x00s\\x00\\x00@\\x00@\\x11\\xB8a\\xC0\\xA8\\x00\\x01\\xC0\\xA8\\x00\\xC7\n")
unfolding file_under
an_ipv4_header_has_two_lines = refl

an_executable_says_what_it_is : file_under [] [] (0x7f ∷ 0x45 ∷ 0x4c ∷ 0x46 ∷ 0x02 ∷ 0x01 ∷ 0x01 ∷ 0x00 ∷ 0x00 ∷ 0x00 ∷ 0x00 ∷ 0x00 ∷ 0x00 ∷ 0x00 ∷ 0x00 ∷ 0x00 ∷ 0x02 ∷ 0x00 ∷ 0x3e ∷ 0x00 ∷ []) 5
    ≡ Some (codes "# triage feature file, format 1\n# file: exec.txt\n# columns: path, feature, context\n0\tELF class=64 order=little type=2 machine=62\t\\x7FELF\\x02\\x01\\x01\\x00\\x00\\x00\\x00\\x00\\x00\\x00\\x00\\x00\\x02\\x00>\\x00\n")
unfolding file_under
an_executable_says_what_it_is = refl

two_members_that_are_not_read : file_under [] [] (0x1f ∷ 0x8b ∷ 0x08 ∷ 0x50 ∷ 0x4b ∷ 0x03 ∷ 0x04 ∷ []) 6
    ≡ Some (codes "# triage feature file, format 1\n# file: unread.txt\n# columns: path, feature, context\n0\tgzip\t\\x1F\\x8B\\x08PK\\x03\\x04\n3\tzip\t\\x1F\\x8B\\x08PK\\x03\\x04\n")
unfolding file_under
two_members_that_are_not_read = refl

without_keywords_the_header_stands_alone : file_under [] [] (codes "see http://example.com/a b") 7
    ≡ Some (codes "# triage feature file, format 1\n# file: find.txt\n# columns: path, feature, context\n")
unfolding file_under
without_keywords_the_header_stands_alone = refl

a_keyword_comes_ahead_of_a_pattern : found_file (codes "aab") (codes "xaab")
    ≡ Some (codes "# triage feature file, format 1\n# file: find.txt\n# columns: path, feature, context\n1\taab\txaab\n1\taa\txaab\n2\ta\txaab\n")
unfolding found_file
a_keyword_comes_ahead_of_a_pattern = refl

-- ---- under lists, and histograms

a_domain_with_its_context : file_under [] [] (codes "see http://example.com/a b") 2
    ≡ Some (codes "# triage feature file, format 1\n# file: domain.txt\n# columns: path, feature, context\n11\texample.com\tsee http://example.com/a b\n")
unfolding file_under
a_domain_with_its_context = refl

services_are_counted : file_under [] [] (codes "http://a.b/?u=http://c.d/") 22
    ≡ Some (codes "# triage histogram, format 1\n# file: url_services_histogram.txt\nn=1\thttp://a.b\nn=1\thttp://c.d\n")
unfolding file_under
services_are_counted = refl

a_url_in_base64 : file_under [] [] (codes "  aHR0cDovL2V4YW1wbGUuY29tL2hlbGxvLXdvcmxkLTE=") 1
    ≡ Some (codes "# triage feature file, format 1\n# file: url.txt\n# columns: path, feature, context\n2-BASE64-0\thttp://example.com/hello-world-1\thttp://example.com/hello-world-1\n")
unfolding file_under
a_url_in_base64 = refl

-- an entry of a feature and its context stops the domain ..
a_stopped_domain : file_under (codes "example.com\tsee http://example.com/a b") [] (codes "see http://example.com/a b") 12
    ≡ Some (codes "# triage feature file, format 1\n# file: domain_stopped.txt\n# columns: path, feature, context\n11\texample.com\tsee http://example.com/a b\n")
unfolding file_under
a_stopped_domain = refl

a_stopped_domain_is_not_counted : file_under (codes "example.com\tsee http://example.com/a b") [] (codes "see http://example.com/a b") 23
    ≡ Some (codes "# triage histogram, format 1\n# file: domain_histogram.txt\n")
unfolding file_under
a_stopped_domain_is_not_counted = refl

-- .. but not in another context, nor where it is an alert
another_context_stops_nothing : file_under (codes "example.com\tother") [] (codes "see http://example.com/a b") 12
    ≡ Some (codes "# triage feature file, format 1\n# file: domain_stopped.txt\n# columns: path, feature, context\n")
unfolding file_under
another_context_stops_nothing = refl

an_alert_beats_a_stop : file_under (codes "example.com\tsee http://example.com/a b") (codes "example.com") (codes "see http://example.com/a b") 9
    ≡ Some (codes "# triage feature file, format 1\n# file: alerts.txt\n# columns: path, feature, context\n11\texample.com\tsee http://example.com/a b\n")
unfolding file_under
an_alert_beats_a_stop = refl

an_alert_is_not_stopped : file_under (codes "example.com\tsee http://example.com/a b") (codes "example.com") (codes "see http://example.com/a b") 12
    ≡ Some (codes "# triage feature file, format 1\n# file: domain_stopped.txt\n# columns: path, feature, context\n")
unfolding file_under
an_alert_is_not_stopped = refl

-- words are off by default, and the spool is no report file
no_file_of_words : file_under [] [] (codes "strawberry") 8 ≡ None
unfolding file_under
no_file_of_words = refl

the_spool_is_no_report_file : file_under [] [] (codes "strawberry") 0 ≡ None
unfolding file_under
the_spool_is_no_report_file = refl
