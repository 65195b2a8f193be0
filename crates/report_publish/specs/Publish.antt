-- Which files make up a report, and what stands in them.
use Rattle.std.specs.Prelude.{◌≡◌, ℕ, Bool, List, ◌++◌, map, filter, if◌then◌else◌}
use Rattle.std.specs.List.{AllByRecursion}
use Rattle.byte_kit.specs.Classes.{is_one_of}
use Rattle.forensic_path.specs.declared.feature.Classed.{Classed}
use Rattle.host_disk.specs.Files.{Files}
use Rattle.feature_file.specs.Files.{is_histogram, is_written}
use Rattle.feature_file.specs.FeatureFile.{file_text}
use Rattle.count_histogram.specs.Rules.{file_of}
use Rattle.count_histogram.specs.Histogram.{histogram_text}
use Rattle.report_publish.specs.declared.publish.TheConstants.{FEATURE_FILES, HISTOGRAMS}

-- the files of the report for these scanners: the feature files and the histograms that are written
abbrev pub files_for : ℕ → List ℕ
files_for scanners = filter (λ file. is_written file scanners) (FEATURE_FILES ++ map file_of HISTOGRAMS)

-- the file is one of them
abbrev pub is_for : ℕ → ℕ → Bool
is_for scanners file = is_one_of (files_for scanners) file

-- the text of a file for the list: a histogram's, or that of a feature file
abbrev pub report_text : ℕ → List Classed → List ℕ
report_text number list = if is_histogram number then histogram_text number list else file_text number list

-- each of these files has its text for the list
abbrev pub HaveTexts : List ℕ → List Classed → Files → Type 0
HaveTexts numbers list files = AllByRecursion (λ file. files file ≡ report_text file list) numbers

-- the report stands: each of its files has its text for the list
abbrev pub AreWritten : ℕ → List Classed → Files → Type 0
AreWritten scanners list files = HaveTexts (files_for scanners) list files

-- the feature files of the report
abbrev pub features_for : ℕ → List ℕ
features_for scanners = filter (λ file. is_written file scanners) FEATURE_FILES

-- the histograms of the report
abbrev pub histograms_for : ℕ → List ℕ
histograms_for scanners = filter (λ file. is_written file scanners) (map file_of HISTOGRAMS)
