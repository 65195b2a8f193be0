-- One file of a list is written, and all others stay as they were.
use Rattle.std.proofs.Common.{◌≡◌, ◌≢◌, ◌≤◌, ◌<◌, ◌⊎◌, ℕ, Bool, false, IsTrue, nat_eq, List, ◌++◌, length, get_or, set, ap, sym, ◌∙◌, arith, get_or-set_other, get_or-set_same, length-set, inl, inr}
use Rattle.std.specs.List.{All, AllWithin, IsDistinct}
use Rattle.std.proofs.lemmas.List.{get_or_default}
use Rattle.std.proofs.Math.Seq.{map-set_same}
use Rattle.byte_kit.specs.Classes.{is_one_of}
use Rattle.forensic_path.specs.declared.feature.Classed.{Classed}
use Rattle.host_disk.specs.Files.{Files}
use Rattle.report_publish.specs.declared.open_file.OpenFile.{OpenFile}
use Rattle.report_publish.specs.OpenFile.{numbers, IsPlaced, HasLines}
use Rattle.report_publish.proofs.Apart.{other_number, not_number}

-- the file at a place of the list was written, on a disk that may tell its files
pub record OneWritten (tells : Bool) (files now : Files) (open_files : List OpenFile) (i : ℕ) (d new : OpenFile) : Type 0 where
  pub apart : IsDistinct nat_eq (numbers open_files)
  pub within : i < length open_files
  pub same : new.number ≡ (get_or open_files i d).number
  pub others : IsTrue tells → (k : ℕ) → k ≢ (get_or open_files i d).number → now k ≡ files k

place_is : (i k : ℕ) → (k ≡ i) ⊎ (k ≢ i)
place_is i k = grind arith

module _ {tells : Bool} {files now : Files} {open_files : List OpenFile} {i : ℕ} {d new : OpenFile} (w : OneWritten tells files now open_files i d new) where
  -- the numbers stay
  pub named : numbers (set open_files i new) ≡ numbers open_files
  named = map-set_same (λ (f : OpenFile). f.number) open_files i new d w.same

  -- a number that no file of the list has is another than that of the written one
  pub other : (file : ℕ) → is_one_of (numbers open_files) file ≡ false → file ≢ (get_or open_files i d).number
  other file none = not_number open_files file i d none w.within

  content_kept : (k : ℕ) (e : OpenFile) → k < length open_files → k ≢ i → IsTrue tells →
      now (get_or open_files k e).number ≡ files (get_or open_files k e).number
  content_kept k e in_k apart_k is_told =
      w.others is_told (get_or open_files k e).number
      (λ same. other_number open_files i k e w.apart w.within in_k apart_k
      (same ∙ ap (λ (f : OpenFile). f.number) (get_or_default open_files i d e w.within)))

  -- what holds of each other file before, and of the written one after, holds of each after
  pub step :
      (P Q : OpenFile → Type 0) → ((f : OpenFile) → (IsTrue tells → now f.number ≡ files f.number) → P f → Q f) →
      (low high : ℕ) → high ≤ length open_files →
      ((k : ℕ) (d : OpenFile) → low ≤ k → k < high → k ≢ i → P (get_or open_files k d)) →
      (low ≤ i → i < high → Q new) → AllWithin Q (set open_files i new) low high
  step P Q keeps low high within before here k d from_low to_high =
      elim (place_is i k) as (λ _. Q (get_or (set open_files i new) k d)) [
        | inl at ↦ rw at (let in_i : i < length open_files = w.within in rw get_or-set_same (here (omega arith) (omega arith)))
        | inr other ↦
            rw get_or-set_other
            (keeps (get_or open_files k d) (content_kept k d (omega arith) other) (before k d from_low to_high other))
      ]

  pub all_step :
      (P Q : OpenFile → Type 0) → ((f : OpenFile) → (IsTrue tells → now f.number ≡ files f.number) → P f → Q f) →
      All P open_files → Q new → All Q (set open_files i new)
  all_step P Q keeps before here k d in_k =
      let long : length (set open_files i new) ≡ length open_files = length-set open_files i new in
      step P Q keeps 0 (length open_files) (omega arith) (λ k d _ lt _. before k d lt) (λ _ _. here) k d (omega arith) (omega arith)

  -- each file is still placed
  pub still_placed : All (IsPlaced tells files) open_files → IsPlaced tells now new → All (IsPlaced tells now) (set open_files i new)
  still_placed = all_step (IsPlaced tells files) (IsPlaced tells now)
      (λ f kept is_placed. record {
        number = is_placed.number;
        bound = is_placed.bound;
        place = λ is_told. is_placed.place is_told ∙ ap length (sym (kept is_told));
      })

  -- what stands in another file stays its text
  pub has_lines : IsTrue tells → (list : List Classed) (f : OpenFile) →
      (IsTrue tells → now f.number ≡ files f.number) → HasLines files list f → HasLines now list f
  has_lines is_told list f kept has = ap (λ content. content ++ f.piece.items) (kept is_told) ∙ has
