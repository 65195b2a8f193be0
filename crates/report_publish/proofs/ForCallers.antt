-- The files of a report are those of the table of report files that are written, but for the spool.
use Rattle.std.proofs.Common.{◌≡◌, ◌≢◌, ◌∙◌, ◌++◌, ◌==◌, ◌&&◌, ◌||◌, ℕ, Bool, true, false, List, [], ◌∷◌, map, ap, sym, refl, arith, eqb-true, eq-eqb}
use Rattle.std.specs.List.{list_any}
use Rattle.std.proofs.lemmas.Bool.{and_from}
use Rattle.std.proofs.lemmas.Bool.Decides.{nat_tests}
use Rattle.std.proofs.lemmas.Map.Views.{any-filter_same}
use Rattle.byte_kit.specs.Classes.{is_one_of}
use Rattle.feature_file.specs.Files.{ReportFile, report_files, is_wanted, is_written}
use Rattle.count_histogram.specs.Rules.{file_of}
use Rattle.report_publish.specs.declared.publish.TheConstants.{FEATURE_FILES, HISTOGRAMS}
use Rattle.report_publish.specs.Publish.{is_for}
use Rattle.report_publish.proofs.Members.{and_left, and_right, false_is_not_true}

-- the feature files and the histograms
abbrev built : List ℕ
built = FEATURE_FILES ++ map file_of HISTOGRAMS

is_for_both : (scanners number : ℕ) → is_for scanners number ≡ (is_written number scanners && is_one_of built number)
is_for_both scanners number =
    any-filter_same (λ b. number == b) (λ file. is_written file scanners) (is_written number scanners)
    (λ k same. ap (λ file. is_written file scanners) (sym (eqb-true number k same))) built

same_turned : (a b : ℕ) (rest : Bool) → ((a == b) && rest) ≡ true → (b == a) ≡ true
same_turned a b rest both = eq-eqb b a (sym (eqb-true a b (and_left (a == b) rest both)))

one_more : (a b c d : Bool) → (a ≡ true → b ≡ true) → (c ≡ true → d ≡ true) → (a || c) ≡ true → (b || d) ≡ true
one_more true b c d here there one = rw (here refl) refl
one_more false true c d here there one = refl
one_more false false c d here there one = there one

-- a file that is written is one of the table
listed : (scanners number : ℕ) (files : List ReportFile) →
    list_any (λ f. (f.number == number) && is_wanted scanners f.scanner) files ≡ true → is_one_of (map (λ (f : ReportFile). f.number) files) number ≡ true
listed scanners number [] one = one
listed scanners number (f ∷ files) one =
    one_more _ _ _ _ (same_turned f.number number (is_wanted scanners f.scanner)) (listed scanners number files) one

-- the table has the spool, and then them
table : map (λ (f : ReportFile). f.number) report_files ≡ 0 ∷ built
unfolding report_files
table = refl

behind_first : (number : ℕ) (rest : Bool) → number ≢ 0 → ((number == 0) || rest) ≡ true → rest ≡ true
behind_first number rest other one = grind (arith, nat_tests)

-- each file that is written belongs to the report, but for the spool
pub written_is_for : (scanners number : ℕ) → is_written number scanners ≡ true → number ≢ 0 → is_for scanners number ≡ true
written_is_for scanners number written other =
    is_for_both scanners number
    ∙ and_from (is_written number scanners) (is_one_of built number) written
    (behind_first number (is_one_of built number) other
    (ap (λ files. is_one_of files number) (sym table) ∙ listed scanners number report_files written))

-- and each file of the report is written and isn't the spool
pub for_is_written : (scanners number : ℕ) → is_for scanners number ≡ true → is_written number scanners ≡ true
for_is_written scanners number one = and_left _ _ (sym (is_for_both scanners number) ∙ one)

pub for_is_other : (scanners number : ℕ) → is_for scanners number ≡ true → number ≢ 0
for_is_other scanners number one spool =
    false_is_not_true (ap (λ n. is_one_of built n) (sym spool) ∙ and_right (is_written number scanners) (is_one_of built number) (sym (is_for_both scanners number) ∙ one))
