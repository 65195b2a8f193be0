-- No two files of a report have one number.
use Rattle.std.proofs.Common.{◌≡◌, ◌≢◌, ◌<◌, ◌⊎◌, ℕ, Bool, true, false, not, ◌&&◌, cond, nat_eq, List, [], ◌∷◌, length, filter, get_or, refl, sym, ◌∙◌, inl, inr, arith, eq-eqb}
use Rattle.std.specs.List.{IsDistinct, list_all}
use Rattle.std.proofs.Math.ListN.{get_or-map}
use Rattle.std.proofs.lemmas.List.{length-map}
use Rattle.std.proofs.lemmas.List.Recursion.{or_at}
use Rattle.std.proofs.lemmas.Map.Keys.{apart_from_distinct, IsDistinct-head, IsDistinct-tail, IsDistinct-cons}
use Rattle.byte_kit.specs.Classes.{is_one_of}
use Rattle.report_publish.specs.declared.open_file.OpenFile.{OpenFile}
use Rattle.report_publish.specs.declared.publish.TheConstants.{FEATURE_FILES}
use Rattle.report_publish.specs.OpenFile.{numbers}
use Rattle.report_publish.proofs.Members.{and_left, and_right, false_is_not_true, all_filter, none_pass}

-- what a filter keeps of different numbers are different numbers
pub distinct_filter : (p : ℕ → Bool) (xs : List ℕ) → IsDistinct nat_eq xs → IsDistinct nat_eq (filter p xs)
distinct_filter p [] apart = apart
distinct_filter p (x ∷ xs) apart =
    let rest : IsDistinct nat_eq (filter p xs) = distinct_filter p xs (IsDistinct-tail nat_eq x xs apart) in
    elim (p x) as (λ b. IsDistinct nat_eq (cond b (x ∷ filter p xs) (filter p xs))) [
      | true ↦ IsDistinct-cons nat_eq x (filter p xs) (all_filter (λ y. nat_eq x y ≡ false) p xs (IsDistinct-head nat_eq x xs apart)) rest
      | false ↦ rest
    ]

-- no number of the list comes again
abbrev all_differ : List ℕ → Bool
all_differ [] = true
all_differ (x ∷ xs) = list_all (λ (y : ℕ). not (nat_eq x y)) xs && all_differ xs

distinct_where : (xs : List ℕ) → all_differ xs ≡ true → IsDistinct nat_eq xs
unfolding IsDistinct
distinct_where [] all = tt
distinct_where (x ∷ xs) all = (none_pass (nat_eq x) xs (and_left _ _ all), distinct_where xs (and_right _ _ all))

pub built_apart : IsDistinct nat_eq FEATURE_FILES
built_apart = distinct_where FEATURE_FILES refl

number_at : (open_files : List OpenFile) (i : ℕ) (d : OpenFile) → get_or (numbers open_files) i d.number ≡ (get_or open_files i d).number
number_at open_files i d = get_or-map (λ (f : OpenFile). f.number) open_files i d

same_test : (open_files : List OpenFile) (i k : ℕ) (d : OpenFile) → (get_or open_files k d).number ≡ (get_or open_files i d).number →
    nat_eq (get_or (numbers open_files) k d.number) (get_or (numbers open_files) i d.number) ≡ true
same_test open_files i k d same =
    eq-eqb (get_or (numbers open_files) k d.number) (get_or (numbers open_files) i d.number)
    (number_at open_files k d ∙ same ∙ sym (number_at open_files i d))

apart_places : (i k : ℕ) → k ≢ i → (i < k) ⊎ (k < i)
apart_places i k other = grind arith

-- two places of the list have different numbers
pub other_number :
    (open_files : List OpenFile) (i k : ℕ) (d : OpenFile) →
    IsDistinct nat_eq (numbers open_files) → i < length open_files → k < length open_files → k ≢ i →
    (get_or open_files k d).number ≢ (get_or open_files i d).number
other_number open_files i k d apart in_i in_k other same =
    elim (apart_places i k other) as (λ _. ⊥) [
      | inl before ↦ false_is_not_true (sym (apart_from_distinct nat_eq (numbers open_files) i k d.number apart before (rw (length-map) in_k)) ∙ same_test open_files k i d (sym same))
      | inr before ↦ false_is_not_true (sym (apart_from_distinct nat_eq (numbers open_files) k i d.number apart before (rw (length-map) in_i)) ∙ same_test open_files i k d same)
    ]

-- a number that no file of the list has is not that of the file at a place
pub not_number :
    (open_files : List OpenFile) (file i : ℕ) (d : OpenFile) →
    is_one_of (numbers open_files) file ≡ false → i < length open_files → file ≢ (get_or open_files i d).number
not_number open_files file i d none in_i same =
    let one = or_at (λ (fs : List OpenFile). is_one_of (numbers fs) file) (λ (f : OpenFile). nat_eq file f.number) refl (λ _ _. refl)
    open_files i d in_i (eq-eqb file (get_or open_files i d).number same) in
    false_is_not_true (sym none ∙ one)
