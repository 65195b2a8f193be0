-- The files that are built: each has a place on a disk, and is open where it is written.
use Rattle.std.proofs.Common.{◌≡◌, ◌∙◌, ◌<◌, ◌+◌, ◌++◌, take, filter, ap, sym, append-nil, ℕ, Bool, true, false, List, [], ◌∷◌, length, get_or, cond, nat_lt, refl}
use Rattle.std.proofs.lemmas.List.{map-append}
use Rattle.std.specs.List.{list_all}
use Rattle.std.proofs.lemmas.Bool.{ltb-true}
use Rattle.std.proofs.lemmas.List.Elements.{filter_more}
use Rattle.std.proofs.lemmas.List.Recursion.{and_at}
use Rattle.feature_file.specs.Files.{is_written}
use Rattle.feature_file.specs.FeatureFile.{header_of}
use Rattle.report_publish.specs.declared.open_file.OpenFile.{OpenFile}
use Rattle.report_publish.specs.declared.publish.TheConstants.{FEATURE_FILES}
use Rattle.report_publish.specs.OpenFile.{numbers, IsFresh}

-- a disk has each file that is built
pub built_below : (i d : ℕ) → i < length FEATURE_FILES → get_or FEATURE_FILES i d < 64
built_below i d in_i =
    ltb-true (get_or FEATURE_FILES i d) 64
    (and_at (list_all (λ (n : ℕ). nat_lt n 64)) (λ (n : ℕ). nat_lt n 64) refl (λ _ _. refl) FEATURE_FILES i d in_i refl)

-- the file at a place of those that are built is fresh
pub fresh_file :
    (f : OpenFile) (i : ℕ) → i < length FEATURE_FILES → f.number ≡ get_or FEATURE_FILES i 0 → f.written ≡ 0
    → f.piece.items ≡ header_of (get_or FEATURE_FILES i 0) → IsFresh f
fresh_file f i in_i same none header = record {
  number = rw same (built_below i 0 in_i);
  written = none;
  piece = header ∙ ap header_of (sym same);
}

-- the files that are written among those ahead of a place
abbrev pub written_ahead : ℕ → ℕ → List ℕ
written_ahead scanners i = filter (λ (file : ℕ). is_written file scanners) (take i FEATURE_FILES)

kept_if : ℕ → Bool → List ℕ
kept_if number is = cond is (number ∷ []) []

-- one more of them is open
pub one_more :
    (open_files now : List OpenFile) (f : OpenFile) (scanners i : ℕ) → i < length FEATURE_FILES →
    numbers open_files ≡ written_ahead scanners i → now ≡ open_files ++ f ∷ [] →
    f.number ≡ get_or FEATURE_FILES i 0 → is_written (get_or FEATURE_FILES i 0) scanners ≡ true →
    numbers now ≡ written_ahead scanners (i + 1)
unfolding kept_if
one_more open_files now f scanners i in_i before is same written =
    ap numbers is
    ∙ map-append (λ (f : OpenFile). f.number) open_files (f ∷ [])
    ∙ ap (λ front. front ++ f.number ∷ []) before
    ∙ ap (λ number. written_ahead scanners i ++ number ∷ []) same
    ∙ ap (λ test. written_ahead scanners i ++ kept_if (get_or FEATURE_FILES i 0) test) (sym written)
    ∙ sym (filter_more (λ file. is_written file scanners) FEATURE_FILES i 0 in_i)

-- the one that isn't written stays away
pub none_more :
    (open_files now : List OpenFile) (scanners i : ℕ) → i < length FEATURE_FILES →
    numbers open_files ≡ written_ahead scanners i → now ≡ open_files → is_written (get_or FEATURE_FILES i 0) scanners ≡ false →
    numbers now ≡ written_ahead scanners (i + 1)
unfolding kept_if
none_more open_files now scanners i in_i before is written =
    ap numbers is ∙ before
    ∙ sym (append-nil (written_ahead scanners i))
    ∙ ap (λ test. written_ahead scanners i ++ kept_if (get_or FEATURE_FILES i 0) test) (sym written)
    ∙ sym (filter_more (λ file. is_written file scanners) FEATURE_FILES i 0 in_i)
