-- Worked rows of texts, as laws that compute.
use Rattle.std.specs.Prelude.{◌≡◌, ℕ, List, [], ◌∷◌, codes, refl, Option}
use Rattle.scan_set.proofs.Shown.{shown}
use Rattle.feature_escape.specs.Escape.{unescape_lenient_of}
use Rattle.stop_lists.specs.Lists.{entries_of, class_under}
use Rattle.feature_file.specs.Files.{report_files}
use Rattle.triage_run.specs.declared.status.Status.{Status}
use Rattle.triage_run.specs.declared.status.Status.TheVariants.{Usage, ListTooLong, ReadFault, PatternRefused, TooManyPages, NotYet}
use Rattle.scan_settings.specs.declared.fault.Why.TheVariants.{TooMany, ValueMissing, BadText, PlaceMissing, WordBounds}
use Rattle.triage_run.specs.declared.status.List.TheVariants.{Alert}
use Rattle.triage_run.specs.declared.status.ReadPlace.TheVariants.{StopList, Page}
use Rattle.triage_run.specs.declared.status.Unbuilt.TheVariants.{Log}
use Rattle.report_publish.specs.declared.publish.TheConstants.{FEATURE_FILES}
use Rattle.triage_run.specs.Case.{classed_of}
use Rattle.triage_run.specs.Text.{counts_of, counts_text, line_of}

-- ---- refusals

-- what the program prints for a refusal
unfoldable refusal_text : Status → List ℕ
unfolding shown
refusal_text status = line_of status

a_place_is_missing : refusal_text (Usage 2 PlaceMissing) ≡ codes "usage: word 2: place missing\n"
unfolding refusal_text
a_place_is_missing = refl

a_value_is_missing : refusal_text (Usage 3 ValueMissing) ≡ codes "usage: word 3: value missing\n"
unfolding refusal_text
a_value_is_missing = refl

a_text_is_bad : refusal_text (Usage 2 BadText) ≡ codes "usage: word 2: bad text\n"
unfolding refusal_text
a_text_is_bad = refl

an_option_is_given_too_often : refusal_text (Usage 129 TooMany) ≡ codes "usage: word 129: too many\n"
unfolding refusal_text
an_option_is_given_too_often = refl

the_second_pattern_is_refused : refusal_text (PatternRefused 1) ≡ codes "pattern refused: 1\n"
unfolding refusal_text
the_second_pattern_is_refused = refl

the_alert_list_is_too_long : refusal_text (ListTooLong Alert 16777217) ≡ codes "list too long: alert 16777217\n"
unfolding refusal_text
the_alert_list_is_too_long = refl

the_stop_list_was_not_read : refusal_text (ReadFault StopList) ≡ codes "read fault: stop list\n"
unfolding refusal_text
the_stop_list_was_not_read = refl

bounds_are_crossed : refusal_text (Usage 7 WordBounds) ≡ codes "usage: word 7: word bounds crossed\n"
unfolding refusal_text
bounds_are_crossed = refl

the_log_is_not_built : refusal_text (NotYet Log) ≡ codes "not yet: log\n"
unfolding refusal_text
the_log_is_not_built = refl

a_page_was_not_read : refusal_text (ReadFault (Page 17)) ≡ codes "read fault: page 17\n"
unfolding refusal_text
a_page_was_not_read = refl

pages_are_too_many : refusal_text (TooManyPages 1048577) ≡ codes "too many pages: 1048577\n"
unfolding refusal_text
pages_are_too_many = refl

-- ---- what is found

-- a pattern is plain data here: how long its match is
abbrev is_match : (List ℕ → Option ℕ) → List ℕ → Option ℕ
is_match pattern = pattern

-- what is found in an image by URLs and domains under a stop list and an alert list, in pages of 8 bytes
unfoldable text_under : List ℕ → List ℕ → List ℕ → List ℕ
unfolding shown unescape_lenient_of entries_of class_under report_files classed_of counts_text
text_under stop alert image = counts_text (counts_of is_match FEATURE_FILES (record {
  image = image;
  stop = stop;
  alert = alert;
  page = 8;
  plan = record { scanners = 3; depth = 0; mask = 0; word_min = 6; word_max = 14; context = 16; keywords = []; patterns = [] };
  readings = [];
}))

-- an alert has two lines, and is one feature
stopped_features_and_alerts_are_counted : text_under (codes "example.com") (codes "http://example.com/a") (codes "see http://example.com/a b")
    ≡ codes "done pages=4 features=2\nurl.txt 1\nalerts.txt 1\ndomain_stopped.txt 1\n"
unfolding text_under
stopped_features_and_alerts_are_counted = refl

each_file_with_lines_is_counted : text_under [] [] (codes "see http://example.com/a b") ≡ codes "done pages=4 features=2\nurl.txt 1\ndomain.txt 1\n"
unfolding text_under
each_file_with_lines_is_counted = refl

a_file_without_lines_is_passed_over : text_under [] [] (codes "HTTPS://X ftp://y") ≡ codes "done pages=3 features=2\nurl.txt 2\n"
unfolding text_under
a_file_without_lines_is_passed_over = refl

an_empty_image_has_no_page : text_under [] [] [] ≡ codes "done pages=0 features=0\n"
unfolding text_under
an_empty_image_has_no_page = refl
