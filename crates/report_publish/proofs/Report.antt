-- A whole report: its feature files have texts of feature files, and its histograms those of histograms.
use Rattle.std.proofs.Common.{◌≡◌, ◌∙◌, ◌++◌, ◌==◌, ℕ, true, false, cond, List, map, ap, sym, subst, refl}
use Rattle.std.specs.List.{AllByRecursion}
use Rattle.std.proofs.lemmas.Bool.{or_parts}
use Rattle.std.proofs.lemmas.List.Elements.{filter-append}
use Rattle.std.proofs.lemmas.List.Folds.{list_any-append}
use Rattle.byte_kit.specs.Classes.{is_one_of}
use Rattle.forensic_path.specs.declared.feature.Classed.{Classed}
use Rattle.host_disk.specs.Files.{Files}
use Rattle.feature_file.specs.Files.{is_written, is_histogram}
use Rattle.feature_file.specs.FeatureFile.{file_text}
use Rattle.count_histogram.specs.Rules.{file_of}
use Rattle.count_histogram.specs.Histogram.{histogram_text}
use Rattle.report_publish.specs.declared.publish.TheConstants.{FEATURE_FILES, HISTOGRAMS}
use Rattle.report_publish.specs.OpenFile.{AreFeatureFiles}
use Rattle.report_publish.specs.Publish.{features_for, histograms_for, files_for, is_for, report_text, HaveTexts, AreWritten}
use Rattle.report_publish.proofs.Members.{all_filter, none_pass, none_of, all_both, all_joined}

module _ (scanners : ℕ) where
  -- no feature file is a histogram
  plain : AllByRecursion (λ file. is_histogram file ≡ false) (features_for scanners)
  plain = all_filter (λ file. is_histogram file ≡ false) (λ file. is_written file scanners) FEATURE_FILES (none_pass is_histogram FEATURE_FILES refl)

  -- each histogram is one
  counted : AllByRecursion (λ file. is_histogram file ≡ true) (histograms_for scanners)
  counted = all_filter (λ file. is_histogram file ≡ true) (λ file. is_written file scanners) (map file_of HISTOGRAMS) (refl, (refl, (refl, (refl, (refl, (refl, tt))))))

  joined : files_for scanners ≡ features_for scanners ++ histograms_for scanners
  joined = filter-append (λ file. is_written file scanners) FEATURE_FILES (map file_of HISTOGRAMS)

  -- a file that isn't of the report is no feature file and no histogram of it
  pub neither : (file : ℕ) → is_for scanners file ≡ false →
      (is_one_of (features_for scanners) file ≡ false) × (is_one_of (histograms_for scanners) file ≡ false)
  neither file none =
      or_parts (is_one_of (features_for scanners) file) (is_one_of (histograms_for scanners) file)
      (sym (ap (λ (files : List ℕ). is_one_of files file) joined
      ∙ list_any-append (λ b. file == b) (features_for scanners) (histograms_for scanners)) ∙ none)

  as_feature : (content : List ℕ) (file : ℕ) (list : List Classed) → is_histogram file ≡ false → content ≡ file_text file list → content ≡ report_text file list
  as_feature content file list fails is = is ∙ ap (λ test. cond test (histogram_text file list) (file_text file list)) (sym fails)

  -- the texts of feature files are those of the report
  pub feature_texts : (list : List Classed) (files : Files) (named : List ℕ) → named ≡ features_for scanners → AreFeatureFiles named list files → HaveTexts (features_for scanners) list files
  feature_texts list files named is texts =
      all_both (λ file. is_histogram file ≡ false) (λ file. files file ≡ file_text file list) (λ file. files file ≡ report_text file list)
      (λ file. as_feature (files file) file list) (features_for scanners) plain
      (subst (λ (numbers : List ℕ). AreFeatureFiles numbers list files) is texts)

  -- the report stands where the feature files stood and the histograms were written since
  pub whole : (list : List Classed) (files now : Files) → HaveTexts (features_for scanners) list files → HaveTexts (histograms_for scanners) list now
      → ((file : ℕ) → is_one_of (histograms_for scanners) file ≡ false → now file ≡ files file) → AreWritten scanners list now
  whole list files now features histograms others =
      subst (λ (numbers : List ℕ). HaveTexts numbers list now) (sym joined)
      (all_joined (λ file. now file ≡ report_text file list) (features_for scanners) (histograms_for scanners)
      (all_both (λ file. is_histogram file ≡ false) (λ file. files file ≡ report_text file list) (λ file. now file ≡ report_text file list)
      (λ file fails is. others file (none_of is_histogram (histograms_for scanners) file counted fails) ∙ is) (features_for scanners) plain features)
      histograms)
