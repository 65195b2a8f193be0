-- From files with their headers to files with their texts.
use Rattle.std.proofs.Common.{◌≡◌, ◌∙◌, ◌++◌, ℕ, List, [], get_or, ap, sym, subst, append-nil, Result, Ok, Err, OnOk}
use Rattle.std.specs.List.{All}
use Rattle.std.proofs.lemmas.List.Elements.{All-map, recursion_from_All}
use Rattle.forensic_path.specs.declared.feature.Classed.{Classed}
use Rattle.host_disk.specs.Files.{Files}
use Rattle.feature_file.specs.FeatureFile.{file_text}
use Rattle.report_publish.specs.declared.fault.PublishFault.{PublishFault}
use Rattle.report_publish.specs.declared.open_file.OpenFile.{OpenFile}
use Rattle.report_publish.specs.OpenFile.{numbers, IsFresh, HasLines, AreFeatureFiles}
use Rattle.report_publish.proofs.Texts.{text_none}

-- a file that is cut, with its header in the piece, has no line yet
begun_file : (files : Files) (f : OpenFile) → IsFresh f → files f.number ≡ [] → HasLines files [] f
begun_file files f fresh empty = ap (λ content. content ++ f.piece.items) empty ∙ fresh.piece ∙ sym (text_none f.number)

pub begun : (files : Files) (open_files : List OpenFile) →
    All IsFresh open_files → All (λ f. files f.number ≡ []) open_files → All (HasLines files []) open_files
begun files open_files fresh empty k d in_k = begun_file files (get_or open_files k d) (fresh k d in_k) (empty k d in_k)

-- a file that has all its lines and nothing in the piece has its text
written_file : (files : Files) (items : List Classed) (f : OpenFile) → f.piece.items ≡ [] → HasLines files items f →
    files f.number ≡ file_text f.number items
written_file files items f empty has =
    sym (append-nil (files f.number)) ∙ ap (λ piece. files f.number ++ piece) (sym empty) ∙ has

all_written : (items : List Classed) (files : Files) (open_files : List OpenFile) →
    All (λ f. f.piece.items ≡ []) open_files → All (HasLines files items) open_files → AreFeatureFiles (numbers open_files) items files
all_written items files open_files emptied lines =
    recursion_from_All (λ file. files file ≡ file_text file items) (numbers open_files)
    (All-map (λ file. files file ≡ file_text file items) (λ (f : OpenFile). f.number) open_files
    (λ k d in_k. written_file files items (get_or open_files k d) (emptied k d in_k) (lines k d in_k)))

-- the texts stand whatever a last call answered that changed no file
pub texts_stand :
    (result : Result (Unit {0}) PublishFault) (items : List Classed) (files now : Files) (open_files : List OpenFile) (named : List ℕ) →
    now ≡ files → numbers open_files ≡ named → All (λ f. f.piece.items ≡ []) open_files → All (HasLines files items) open_files →
    OnOk result (AreFeatureFiles named items now)
texts_stand (Ok x) items files now open_files named same is emptied lines =
    subst (λ (files : Files). AreFeatureFiles named items files) (sym same)
    (subst (λ (numbers : List ℕ). AreFeatureFiles numbers items files) is (all_written items files open_files emptied lines))
texts_stand (Err e) items files now open_files named same is emptied lines = tt
