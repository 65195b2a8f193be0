-- What a scan finds and writes is the report of its image under its lists.
use Rattle.std.proofs.Common.{◌≢◌, nat_eq, eqb-true, ◌||◌, ◌≡◌, ◌∙◌, ℕ, Option, ◌-◌, ◌≤◌, ◌++◌, arith, ◌==◌, Bool, false, List, [], ◌∷◌, length, map, true, IsTrue, Some, None, ap, sym, subst, refl}
use Rattle.std.specs.Prelude.{IfSome, option_and_then, option_map}
use Rattle.std.specs.List.{AllByRecursion}
use Rattle.std.proofs.lemmas.List.{map-append}
use Rattle.forensic_path.specs.declared.feature.Classed.{Classed}
use Rattle.host_disk.specs.Files.{Files}
use Rattle.scan_set.specs.Here.{owned}
use Rattle.scan_set.proofs.Images.{owned-none, owned-join, features_owned}
use Rattle.stop_lists.specs.Lists.{ListEntries, entries_of}
use Rattle.byte_kit.specs.Classes.{is_one_of}
use Rattle.feature_file.specs.Files.{is_written}
use Rattle.report_publish.specs.Publish.{files_for, report_text, AreWritten}
use Rattle.report_publish.proofs.ForCallers.{written_is_for}
use Rattle.std.proofs.lemmas.Bool.Decides.{nat_tests}
use Rattle.report_publish.specs.declared.publish.TheConstants.{FEATURE_FILES}
use Rattle.scan_set.specs.declared.plan.ScanPlan.{ScanPlan}
use Rattle.triage_run.specs.declared.words.Scan.{Scan}
use Rattle.image_gen.specs.Image.{image_of}
use Rattle.triage_run.specs.declared.words.Generate.{Generate}
use Rattle.triage_run.specs.Case.{Case, classed_of, report, case_by, case_made, LeavesReport}
use Rattle.triage_run.specs.Lists.{classed_under}
use Rattle.triage_run.specs.Image.{items_under, counts_in, WritesImage, CountsImage}
use Rattle.triage_run.specs.Text.{Counts, counts_of}

-- a text that holds for each number of a list holds for one of them
at_one : (P : ℕ → Type 0) (numbers : List ℕ) (number : ℕ) → AllByRecursion P numbers → is_one_of numbers number ≡ true → P number
at_one P [] number all is = absurd (none_is is)
  where
    none_is : false ≡ true → ⊥
    none_is is = cc
at_one P (other ∷ numbers) number all is = by_test (nat_eq number other) refl (at_one P numbers number all.1) is
  where
    by_test : (test : Bool) → nat_eq number other ≡ test → (is_one_of numbers number ≡ true → P number) → (test || is_one_of numbers number) ≡ true → P number
    by_test true same rest is = subst P (sym (eqb-true number other same)) all.0
    by_test false apart rest is = rest is

not_zero : (number : ℕ) → (number == 0) ≡ false → number ≢ 0
not_zero number zero = grind (arith, nat_tests)

module _ {R : Type 0} (matches : R → List ℕ → Option ℕ) (c : Case R) where
  -- a file with the text of the features has that of the report, if the report has it
  has_text : (files : Files) (number : ℕ) (zeroth on : Bool) → (number == 0) ≡ zeroth → is_written number c.plan.scanners ≡ on →
      AreWritten c.plan.scanners (classed_of matches c) files → IfSome (report matches c number) (λ text. files number ≡ text)
  unfolding report
  has_text files number true on zero is written = rw zero tt
  has_text files number false false zero is written = rw (zero, is) tt
  has_text files number false true zero is written =
      rw (zero, is) (at_one (λ file. files file ≡ report_text file (classed_of matches c)) (files_for c.plan.scanners) number written
      (written_is_for c.plan.scanners number is (not_zero number zero)))

  leaves_report : (tells : Bool) (files : Files) → (IsTrue tells → AreWritten c.plan.scanners (classed_of matches c) files) → LeavesReport matches c tells files
  leaves_report tells files written = λ told number. has_text files number (number == 0) (is_written number c.plan.scanners) refl refl (written told)

  module _ (lists : ListEntries) (stopped : lists.stop ≡ entries_of c.stop) (alerted : lists.alert ≡ entries_of c.alert) where
    -- features under the entries of the case's lists are its own
    items_are : items_under lists (map matches c.readings) c.plan c.image ≡ classed_of matches c
    unfolding classed_of
    items_are = rw (stopped, alerted) refl

    -- files with their texts are the report ..
    report_of_items : (tells : Bool) (files : Files) →
        (IsTrue tells → AreWritten c.plan.scanners (items_under lists (map matches c.readings) c.plan c.image) files) → LeavesReport matches c tells files
    report_of_items tells files written = leaves_report tells files (rw items_are at written)

    -- .. and their counts are the case's
    pub counts_of_items : (found : Counts) → found ≡ counts_in c.page (length c.image) (items_under lists (map matches c.readings) c.plan c.image) →
        found ≡ counts_of matches FEATURE_FILES c
    counts_of_items found is = is ∙ ap (counts_in c.page (length c.image)) items_are

-- what was found in an image that was made is what its case has
pub counts_made : {R : Type 0} (matches : R → List ℕ → Option ℕ) (readings : List R) (made : Generate) (lists : ListEntries) (told : Option (List ℕ)) (found : Counts) →
    lists.stop ≡ entries_of [] → lists.alert ≡ entries_of [] → told ≡ Some (image_of made.seed made.size) →
    CountsImage made.search.page (items_under lists (map matches readings) made.search.plan) told found →
    found ≡ counts_of matches FEATURE_FILES (case_made readings made)
counts_made matches readings made lists told found stopped alerted is counts =
    counts_of_items matches (case_made readings made) lists stopped alerted found (rw is at counts)

-- items that are those of the image, where this is told, have its texts and its counts
pub writes_image : (scanners : ℕ) (found_in : List ℕ → List Classed) (told : Option (List ℕ)) (items : List Classed) (tells : Bool) (files : Files) →
    IfSome told (λ image. items ≡ found_in image) → (IsTrue tells → AreWritten scanners items files) → WritesImage scanners found_in told tells files
writes_image scanners found_in None items tells files are written = tt
writes_image scanners found_in (Some image) items tells files are written = subst (λ (items : List Classed). IsTrue tells → AreWritten scanners items files) are written

pub counts_image : (page bytes : ℕ) (found_in : List ℕ → List Classed) (told : Option (List ℕ)) (items : List Classed) (found : Counts) →
    IfSome told (λ image. bytes ≡ length image) → IfSome told (λ image. items ≡ found_in image) → found ≡ counts_in page bytes items →
    CountsImage page found_in told found
counts_image page bytes found_in None items found long are is = tt
counts_image page bytes found_in (Some image) items found long are is = rw (long, are) at is

-- ---- as far as the lists and the image are told

module _ {R : Type 0} (matches : R → List ℕ → Option ℕ) (scan : Scan) (readings : List R) (lists : ListEntries) where
  abbrev case_from : Option (List ℕ) → Option (List ℕ) → Option (List ℕ) → Option (Case R)
  case_from stop alert image = option_and_then (λ stop. option_and_then (λ alert. option_map (case_by scan readings stop alert) image) alert) stop

  abbrev found_in : List ℕ → List Classed
  found_in = items_under lists (map matches readings) scan.search.plan

  pub report_told : (stop alert image : Option (List ℕ)) (tells : Bool) (files : Files) →
      IfSome stop (λ bytes. lists.stop ≡ entries_of bytes) → IfSome alert (λ bytes. lists.alert ≡ entries_of bytes) →
      WritesImage scan.search.plan.scanners found_in image tells files → IfSome (case_from stop alert image) (λ c. LeavesReport matches c tells files)
  report_told None alert image tells files stopped alerted written = tt
  report_told (Some stop) None image tells files stopped alerted written = tt
  report_told (Some stop) (Some alert) None tells files stopped alerted written = tt
  report_told (Some stop) (Some alert) (Some image) tells files stopped alerted written =
      report_of_items matches (case_by scan readings stop alert image) lists stopped alerted tells files written

  pub counts_told : (stop alert image : Option (List ℕ)) (found : Counts) →
      IfSome stop (λ bytes. lists.stop ≡ entries_of bytes) → IfSome alert (λ bytes. lists.alert ≡ entries_of bytes) →
      CountsImage scan.search.page found_in image found → IfSome (case_from stop alert image) (λ c. found ≡ counts_of matches FEATURE_FILES c)
  counts_told None alert image found stopped alerted is = tt
  counts_told (Some stop) None image found stopped alerted is = tt
  counts_told (Some stop) (Some alert) None found stopped alerted is = tt
  counts_told (Some stop) (Some alert) (Some image) found stopped alerted is =
      counts_of_items matches (case_by scan readings stop alert image) lists stopped alerted found is
