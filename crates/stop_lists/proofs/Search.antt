-- A search that ends at an empty slot has passed each entry that it may look for.
use Rattle.std.specs.Prelude.{◌≡◌, ℕ, ◌+◌, ◌-◌, ◌<◌, ◌≤◌, Bool, true, false, ◌&&◌, ◌||◌, Option, Some, None, List, [], ◌∷◌, ◌++◌, unwrap_or, bytes_eq, slice_index_or, refl}
use Rattle.std.specs.List.{list_any}
use Rattle.std.proofs.Common.{inl, inr, sym, ◌∙◌, ap, arith, subst}
use Rattle.std.proofs.lemmas.Bool.{cases_order, and_parts, both_ways, false_from_ne_true}
use Rattle.std.proofs.lemmas.List.Folds.{list_any_none}
use Rattle.std.proofs.lemmas.Slice.Eq.{bytes_eq-Decides}
use Rattle.stop_lists.specs.declared.buckets.Slot.{Slot}
use Rattle.stop_lists.specs.Lists.{Entry, meets, meets_context}
use Rattle.stop_lists.specs.Hash.{entry_hash, hash_of, home_of, key_of}
use Rattle.stop_lists.specs.Places.{is_entry, same_context}
use Rattle.stop_lists.specs.Buckets.{slot_at, AreTaken, IsFound, IsTable}

-- the slots from a bucket up to this one are taken, and none of those with the hash has the entry
pub record HasPassed (entries : List Entry) (slots : List Slot) (feature : List ℕ) (context : Option (List ℕ)) (hash home at : ℕ) : Type 0 where
  pub taken : AreTaken slots home at
  pub others : (k : ℕ) (d : Entry) → home ≤ k → k < at → (slot_at slots k).hash ≡ hash
      → is_entry feature context (slice_index_or entries ((slot_at slots k).number - 1) d) ≡ false

context_same : (held context : Option (List ℕ)) → same_context held context ≡ true → unwrap_or held [] ≡ unwrap_or context []
context_same None None same = refl
context_same None (Some wanted) same = cc
context_same (Some held) None same = cc
context_same (Some held) (Some wanted) same = (bytes_eq-Decides held wanted).0 same

-- the entry of a feature and a context has their hash
pub entry_has_hash : (feature : List ℕ) (context : Option (List ℕ)) (entry : Entry) → is_entry feature context entry ≡ true
    → entry_hash entry ≡ hash_of (key_of feature context)
entry_has_hash feature context entry is =
    let parts = and_parts (bytes_eq entry.feature feature) (same_context entry.context context) is in
    let first : entry.feature ≡ feature = (bytes_eq-Decides entry.feature feature).0 parts.0 in
    let second : unwrap_or entry.context [] ≡ unwrap_or context [] = context_same entry.context context parts.1 in
    let key : entry.feature ++ unwrap_or entry.context [] ≡ feature ++ unwrap_or context [] = cc in
    ap hash_of key

-- nothing is found behind an empty slot
absent : (entries : List Entry) (count : ℕ) (slots : List Slot) (feature : List ℕ) (context : Option (List ℕ)) (hash at : ℕ) (k : ℕ) (d : Entry)
    → HasPassed entries slots feature context hash (home_of hash count) at → home_of hash count ≤ at → (slot_at slots at).number ≡ 0
    → IsFound slots (home_of hash count) hash (k + 1) → is_entry feature context (slice_index_or entries k d) ≡ true → ⊥
absent entries count slots feature context hash at k d passed from_home empty found is =
    elim (cases_order found.at at) [
      | inl same ↦ omega (arith, ap (λ n. (slot_at slots n).number) same, found.number_is)
      | inr apart ↦ elim apart [
        | inl before ↦
            let other = passed.others found.at d found.from_home before found.hash_is in
            let index : (slot_at slots found.at).number - 1 ≡ k = omega (arith, found.number_is) in
            both_ways _ (ap (λ n. is_entry feature context (slice_index_or entries n d)) (sym index) ∙ other) is
        | inr behind ↦ omega (arith, found.before at from_home behind)
      ]
    ]

pub not_there : (entries : List Entry) (count : ℕ) (slots : List Slot) (feature : List ℕ) (context : Option (List ℕ)) (hash at : ℕ)
    → IsTable entries count slots → hash ≡ hash_of (key_of feature context)
    → HasPassed entries slots feature context hash (home_of hash count) at → home_of hash count ≤ at → (slot_at slots at).number ≡ 0
    → list_any (is_entry feature context) entries ≡ false
not_there entries count slots feature context hash at table hash_is passed from_home empty =
    list_any_none (is_entry feature context) entries (λ k d below. false_from_ne_true _ (λ is.
    absent entries count slots feature context hash at k d passed from_home empty
    (subst (λ (h : ℕ). IsFound slots (home_of h count) h (k + 1)) (entry_has_hash feature context (slice_index_or entries k d) is ∙ sym hash_is) (table.found k d below))
    is))

-- an entry meets a feature in a context where it is that of the feature, or that of both
either : (b : Bool) (held : Option (List ℕ)) (context : List ℕ)
    → (b && meets_context context held) ≡ ((b && same_context held None) || (b && same_context held (Some context)))
either true None context = refl
either true (Some wanted) context = refl
either false None context = refl
either false (Some wanted) context = refl

regroup : (p q r s : Bool) → ((p || q) || (r || s)) ≡ ((p || r) || (q || s))
regroup true q r s = refl
regroup false true true s = refl
regroup false true false s = refl
regroup false false r s = refl

pub meets_by_either : (feature context : List ℕ) (entries : List Entry)
    → list_any (meets feature context) entries ≡ (list_any (is_entry feature None) entries || list_any (is_entry feature (Some context)) entries)
meets_by_either feature context [] = refl
meets_by_either feature context (entry ∷ entries) =
    let first = either (bytes_eq entry.feature feature) entry.context context in
    let rest = meets_by_either feature context entries in
    let all = regroup (is_entry feature None entry) (is_entry feature (Some context) entry) (list_any (is_entry feature None) entries)
    (list_any (is_entry feature (Some context)) entries) in
    cc
