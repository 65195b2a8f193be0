-- A slot that is put where an entry's search ends: the entry is found there, and each other one where it was.
use Rattle.std.specs.Prelude.{◌≡◌, ◌≢◌, ℕ, ◌+◌, ◌<◌, List, slice_index_or}
use Rattle.std.proofs.Common.{inl, inr, sym, ◌∙◌, ap, arith, subst}
use Rattle.std.proofs.lemmas.Bool.{cases_eq}
use Rattle.stop_lists.specs.declared.buckets.Slot.{Slot}
use Rattle.stop_lists.specs.Lists.{Entry}
use Rattle.stop_lists.specs.Hash.{entry_hash, home_of}
use Rattle.stop_lists.specs.Buckets.{slot_at, AreTaken, AreFound, HasNumbersTo, IsFirstEmpty, IsFound, IsPut}

taken_kept : {old new : List Slot} {at : ℕ} {slot : Slot} → IsPut old new at slot → 0 < slot.number → (from to : ℕ)
    → AreTaken old from to → AreTaken new from to
taken_kept {old} {new} {at} {slot} is some from to taken k low high =
    elim (cases_eq k at) [
      | inl same ↦ omega (arith, ap (λ n. (slot_at new n).number) same, ap (λ s. s.number) is.here)
      | inr other ↦ omega (arith, taken k low high, ap (λ s. s.number) (is.others k other))
    ]

-- an entry that was found is found where it was
pub found_kept : {old new : List Slot} {at : ℕ} {slot : Slot} → IsPut old new at slot → (slot_at old at).number ≡ 0
    → 0 < slot.number → (home hash number : ℕ) → 0 < number → IsFound old home hash number → IsFound new home hash number
found_kept {old} {new} {at} {slot} is empty some home hash number one found =
    let other : found.at ≢ at = λ same. absurd (omega (arith, ap (λ n. (slot_at old n).number) same, found.number_is)) in
    let stays = is.others found.at other in
    record {
      at = found.at;
      from_home = found.from_home;
      hash_is = ap (λ s. s.hash) stays ∙ found.hash_is;
      number_is = ap (λ s. s.number) stays ∙ found.number_is;
      before = taken_kept is some home found.at found.before;
    }

-- the new one is found
pub found_new : {old new : List Slot} {at : ℕ} {slot : Slot} → IsPut old new at slot → 0 < slot.number → (home : ℕ)
    → IsFirstEmpty old home at → IsFound new home slot.hash slot.number
found_new {old} {new} {at} {slot} is some home first = record {
  at = at;
  from_home = first.from_home;
  hash_is = ap (λ s. s.hash) is.here;
  number_is = ap (λ s. s.number) is.here;
  before = taken_kept is some home at first.before;
}

-- no number is above the new one
pub numbers_more : {old new : List Slot} {at : ℕ} {slot : Slot} → IsPut old new at slot → (most : ℕ) → slot.number ≡ most + 1
    → HasNumbersTo old most → HasNumbersTo new (most + 1)
numbers_more {old} {new} {at} {slot} is most next numbers k =
    elim (cases_eq k at) [
      | inl same ↦ omega (arith, ap (λ n. (slot_at new n).number) same, ap (λ s. s.number) is.here)
      | inr other ↦ omega (arith, numbers k, ap (λ s. s.number) (is.others k other))
    ]

-- one more entry is found
pub found_more : {old new : List Slot} {at : ℕ} {slot : Slot} → IsPut old new at slot → (entries : List Entry) (count index : ℕ)
    → slot.number ≡ index + 1 → ((d : Entry) → slot.hash ≡ entry_hash (slice_index_or entries index d))
    → IsFirstEmpty old (home_of slot.hash count) at → AreFound entries count old index → AreFound entries count new (index + 1)
found_more {old} {new} {at} {slot} is entries count index number hash first found k d below =
    elim (cases_eq k index) [
      | inl same ↦
          let here = found_new is (omega arith) (home_of slot.hash count) first in
          let hash_here : slot.hash ≡ entry_hash (slice_index_or entries k d) = hash d ∙ ap (λ n. entry_hash (slice_index_or entries n d)) (sym same) in
          let number_here : slot.number ≡ k + 1 = omega arith in
          subst (λ (n : ℕ). IsFound new (home_of (entry_hash (slice_index_or entries k d)) count) (entry_hash (slice_index_or entries k d)) n) number_here
          (subst (λ (h : ℕ). IsFound new (home_of h count) h slot.number) hash_here here)
      | inr other ↦ found_kept is first.empty (omega arith) _ _ (k + 1) (omega arith) (found k d (omega arith))
    ]
