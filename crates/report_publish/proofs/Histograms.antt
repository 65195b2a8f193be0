-- The histograms of a report: each has a file, a header and a text of its own.
use Rattle.std.proofs.Common.{◌≡◌, ◌∙◌, ◌++◌, ℕ, true, List, [], IsSome, Some, Option, ap, sym, refl, append-nil}
use Rattle.forensic_path.specs.declared.feature.Classed.{Classed}
use Rattle.host_disk.specs.Files.{Files}
use Rattle.feature_file.specs.Files.{is_written, file_name_of, report_files}
use Rattle.feature_file.specs.FeatureFile.{header_of}
use Rattle.count_histogram.specs.Rules.{file_of, rule_of}
use Rattle.count_histogram.specs.Histogram.{histogram_text, rows_of, items_of}
use Rattle.count_histogram.specs.declared.row.Row.{Row}
use Rattle.count_histogram.specs.declared.rule.Rule.{Rule}
use Rattle.count_histogram.specs.declared.rule.Rule.TheVariants.{Url, Service, Domain, Ip, Ether, Find}
use Rattle.report_publish.specs.declared.open_file.OpenFile.{OpenFile}
use Rattle.report_publish.specs.OpenFile.{gathered}
use Rattle.report_publish.specs.RowLines.{rows_text}

-- where the histogram is written, it has its text
abbrev pub IsDone : ℕ → List Classed → Files → Rule → Type 0
IsDone scanners list files rule = is_written (file_of rule) scanners ≡ true → files (file_of rule) ≡ histogram_text (file_of rule) list

-- its file has a name
pub named : (rule : Rule) → IsSome (file_name_of (file_of rule))
unfolding report_files
named Url = refl
named Service = refl
named Domain = refl
named Ip = refl
named Ether = refl
named Find = refl

-- the rule of its file is its own
rule_back : (rule : Rule) → rule_of (file_of rule) ≡ Some rule
rule_back Url = refl
rule_back Service = refl
rule_back Domain = refl
rule_back Ip = refl
rule_back Ether = refl
rule_back Find = refl

-- the text is the header and the lines of the rows
text_by : (rule : Rule) (list : List Classed) → histogram_text (file_of rule) list ≡ header_of (file_of rule) ++ rows_text (rows_of (items_of (Some rule) list))
unfolding histogram_text
text_by rule list = ap (λ (of_file : Option Rule). header_of (file_of rule) ++ rows_text (rows_of (items_of of_file list))) (rule_back rule)

-- a file that was cut, gained the lines of the rows behind its header, and was written, has that text
pub text_stands :
    (begun added flushed now : Files) (made grown emptied : OpenFile) (rule : Rule) (rows : List Row) (list : List Classed) →
    begun (file_of rule) ≡ [] → made.number ≡ file_of rule → made.piece.items ≡ header_of (file_of rule)
    → gathered added grown ≡ gathered begun made ++ rows_text rows
    → emptied.number ≡ file_of rule → emptied.piece.items ≡ [] → gathered flushed emptied ≡ gathered added grown
    → now ≡ flushed → rows ≡ rows_of (items_of (Some rule) list)
    → now (file_of rule) ≡ histogram_text (file_of rule) list
text_stands begun added flushed now made grown emptied rule rows list cut own header grows last none kept same are =
    let number = file_of rule in
    let front : gathered begun made ≡ header_of number =
    ap (λ (n : ℕ). begun n ++ made.piece.items) own ∙ ap (λ (content : List ℕ). content ++ made.piece.items) cut ∙ header in
    ap (λ (files : Files). files number) same
    ∙ ap flushed (sym last)
    ∙ sym (append-nil (flushed emptied.number))
    ∙ ap (λ (piece : List ℕ). flushed emptied.number ++ piece) (sym none)
    ∙ kept ∙ grows
    ∙ ap (λ (head : List ℕ). head ++ rows_text rows) front
    ∙ ap (λ (rows : List Row). header_of number ++ rows_text rows) are
    ∙ sym (text_by rule list)
