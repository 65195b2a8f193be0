-- Entries by their names: each is the one that its name finds, also after one more was added.
use Rattle.std.proofs.Common.{◌≡◌, ℕ, zero, suc, ◌<◌, Bool, true, false, List, [], ◌∷◌, ◌++◌, length, get_or, set, take, drop, Option, Some, None, refl, ap, sym, subst, if◌then◌else◌, arith}
use Rattle.std.proofs.lemmas.List.{length_push}
use Rattle.std.proofs.lemmas.Bool.Decides.{nat_tests}
use Rattle.std.proofs.lemmas.Grind.{common_steps}
use Rattle.std.proofs.lemmas.Option.{gets, slice_get-get_or, cond_some}
use Rattle.host_source.proofs.SlotLemmas.{put-set}
use mathlib.Core.Path.{fun_ext}
use Rattle.std.proofs.lemmas.List.Folds.{find_at, find-append}
use Rattle.std.proofs.lemmas.List.Quantifiers.{position-Some, all_pairs_push}
use Rattle.std.proofs.lemmas.Slice.Eq.{bytes_eq-Decides}
use Rattle.std.specs.Prelude.{position, find, slice_get, option_map, option_and_then}
use Rattle.std.specs.Option.{option_or}
use Rattle.std.specs.List.{position_or_len}
use Rattle.std.specs.Str.{bytes_eq}
use Rattle.host_source.specs.declared.entry.Entry.{Entry}
use Rattle.host_source.specs.Source.{Slot, Attaches, AddsName, Reads}
use Rattle.host_source.specs.Entries.{is_named, held_in, nature_of, slots_in, slot_of, AreApart, PointInside}

bytes_eq_same : (xs : List ℕ) → bytes_eq xs xs ≡ true
bytes_eq_same xs = (bytes_eq-Decides xs xs).1 refl

bytes_eq_other : (xs ys : List ℕ) → (xs ≡ ys → ⊥) → bytes_eq xs ys ≡ false
bytes_eq_other xs ys differ = grind (arith, bytes_eq-Decides)

-- where no two names are the same, an entry is the first of its name
pub first_of_name : (es : List Entry) (place : ℕ) (d : Entry) → AreApart es → place < length es →
    position_or_len (is_named (get_or es place d).name) es ≡ place
first_of_name [] place d apart lt = absurd (omega arith)
first_of_name (e ∷ es) zero d apart lt = rw bytes_eq_same refl
first_of_name (e ∷ es) (suc n) d apart lt =
    let here : n < length es = omega arith in
    let differ : (get_or es n d).name ≡ e.name → ⊥ = λ same. apart 0 (suc n) d (omega arith) lt (sym same) in
    let other : bytes_eq (get_or es n d).name e.name ≡ false = bytes_eq_other _ _ differ in
    let rest : position_or_len (is_named (get_or es n d).name) es ≡ n =
    first_of_name es n d (λ i j x before below. apart (suc i) (suc j) x (omega arith) (omega arith)) here in
    rw other (omega (arith, rest))

-- where no place has a name, nothing is held under it
pub absent_without_place : (es : List Entry) (name : List ℕ) → position (is_named name) es ≡ None → held_in es name ≡ None
absent_without_place es name none = rw find_at (grind (arith, nat_tests, gets))

-- an entry is what its name finds
pub held_at : (es : List Entry) (place : ℕ) (entry : Entry) → AreApart es → place < length es →
    entry ≡ get_or es place entry → held_in es entry.name ≡ Some entry.bytes
held_at es place entry apart lt is =
    let first : position_or_len (is_named entry.name) es ≡ place =
    rw is (first_of_name es place entry apart lt) in
    rw (find_at, first, slice_get-get_or es place entry lt, ← is) refl

-- where nothing is found, each element fails the test
find_none : {X : Type 0} (p : X → Bool) (xs : List X) → find p xs ≡ None → (k : ℕ) (d : X) → k < length xs →
    p (get_or xs k d) ≡ false
find_none p [] none k d lt = absurd (omega arith)
find_none p (x ∷ xs) none zero d lt = grind arith
find_none p (x ∷ xs) none (suc k) d lt = find_none p xs (grind arith) k d (omega arith)

map_none : {X Y : Type 0} (f : X → Y) (o : Option X) → option_map f o ≡ None → o ≡ None
map_none f None none = refl
map_none f (Some x) none = cc

-- a name that finds nothing is the name of no entry
pub apart_from_absent : (es : List Entry) (name : List ℕ) → held_in es name ≡ None →
    (k : ℕ) (d : Entry) → k < length es → (get_or es k d).name ≡ name → ⊥
apart_from_absent es name absent k d lt same =
    let none : find (is_named name) es ≡ None = map_none (λ (e : Entry). e.bytes) (find (is_named name) es) absent in
    let fails : bytes_eq name (get_or es k d).name ≡ false = find_none (is_named name) es none k d lt in
    let passes : bytes_eq name (get_or es k d).name ≡ true = (bytes_eq-Decides name (get_or es k d).name).1 (sym same) in
    cc

-- one more entry, of a new name, keeps the names apart
pub AreApart-push : (es : List Entry) (entry : Entry) → AreApart es → held_in es entry.name ≡ None →
    AreApart (es ++ entry ∷ [])
AreApart-push es entry apart absent =
    all_pairs_push (λ a b. a.name ≡ b.name → ⊥) es entry apart (apart_from_absent es entry.name absent)

either : (b : Bool) (o : Option Entry) (entry : Entry) → (b ≡ true → o ≡ None) →
    option_map (λ (e : Entry). e.bytes) (option_or o (if b then Some entry else None))
    ≡ (if b then Some entry.bytes else option_map (λ (e : Entry). e.bytes) o)
either true o entry absent = rw absent refl
either false None entry absent = refl
either false (Some e) entry absent = refl

held_in-push : (es : List Entry) (entry : Entry) → held_in es entry.name ≡ None → (name : List ℕ) →
    held_in (es ++ entry ∷ []) name ≡ (if bytes_eq name entry.name then Some entry.bytes else held_in es name)
held_in-push es entry absent name =
    rw find-append (either (bytes_eq name entry.name) (find (is_named name) es) entry
    (λ is. let same : name ≡ entry.name = (bytes_eq-Decides name entry.name).0 is in
    rw same (map_none (λ (e : Entry). e.bytes) (find (is_named entry.name) es) absent)))

-- one more entry, of a new name, adds its name and its bytes
pub adds_name : (es : List Entry) (entry : Entry) → held_in es entry.name ≡ None →
    AddsName (nature_of es) (nature_of (es ++ entry ∷ [])) entry.name entry.bytes
adds_name es entry absent = record {
  added = rw (held_in-push es entry absent entry.name, bytes_eq_same) refl;
  others = λ other differs. rw (held_in-push es entry absent other, bytes_eq_other other entry.name differs) refl;
}

-- one more entry leaves each slot as it was
pub slots_in-push : (es : List Entry) (places : List (Option ℕ)) (entry : Entry) → PointInside es places → (slot : ℕ) →
    slots_in (es ++ entry ∷ []) places slot ≡ slots_in es places slot
slots_in-push es places entry inside slot = kept (get_or places slot None) (inside slot)
  where
    kept : (place : Option ℕ) → ((k : ℕ) → place ≡ Some k → k < length es) →
        option_and_then (λ k. option_map slot_of (slice_get (es ++ entry ∷ []) k)) place
        ≡ option_and_then (λ k. option_map slot_of (slice_get es k)) place
    kept None within = refl
    kept (Some k) within =
        let lt : k < length es = within k refl in
        ap (option_map slot_of) (grind (arith, common_steps, gets))

-- one more entry leaves each place inside
pub PointInside-push : (es : List Entry) (places : List (Option ℕ)) (entry : Entry) → PointInside es places →
    PointInside (es ++ entry ∷ []) places
PointInside-push es places entry inside slot place is =
    omega (arith, length_push es entry, inside slot place is)

-- what holds of the entries with one more and of those without it holds after a push, refused or not
pub after_push : (P : List Entry → Type 0) (pushed : Bool) (es now : List Entry) (entry : Entry) →
    now ≡ (if pushed then es ++ entry ∷ [] else es) → P (es ++ entry ∷ []) → P es → P now
after_push P true es now entry is more same = subst P (sym is) more
after_push P false es now entry is more same = subst P (sym is) same

-- a slot that takes the place of its name's entry attaches the name
pub attaches : (es : List Entry) (places : List (Option ℕ)) (slot place : ℕ) (name : List ℕ) (entry : Entry) →
    slot < length places → position (is_named name) es ≡ Some place → entry ≡ get_or es place entry →
    Attaches (nature_of es) (slots_in es places) (slots_in es (set places slot (Some place))) slot name (length entry.bytes)
attaches es places slot place name entry below found is =
    let at = position-Some (is_named name) es place entry found in
    let lt : place < length es = at.0 in
    let named : name ≡ entry.name = rw is ((bytes_eq-Decides name (get_or es place entry).name).0 at.1) in
    let first : position_or_len (is_named name) es ≡ place = (cond_some _ _ place found).1 in
    let holds : held_in es name ≡ Some entry.bytes = rw (find_at, first, slice_get-get_or es place entry lt, ← is) refl in
    let put_at : Option ℕ → Option Slot = option_and_then (λ k. option_map slot_of (slice_get es k)) in
    let here : put_at (Some place) ≡ Some (record { name = name; size = length entry.bytes }) =
    rw (slice_get-get_or es place entry lt, ← is, named) refl in
    record {
      small = entry.small;
      attached = fun_ext (λ k. rw (← here) (put-set put_at places slot (Some place) None below k));
      there = rw holds refl;
      told = rw holds refl;
    }

-- what is copied out of the entry at a slot's place is what the source tells of the slot
pub reads : (es : List Entry) (places : List (Option ℕ)) (slot place at : ℕ) (read : List ℕ) (entry : Entry) →
    AreApart es → get_or places slot None ≡ Some place → place < length es → entry ≡ get_or es place entry →
    read ≡ take (length read) (drop at entry.bytes) →
    Reads (nature_of es) (slots_in es places) slot at read
reads es places slot place at read entry apart attached lt is copied =
    rw (attached, slice_get-get_or es place entry lt, ← is, held_at es place entry apart lt is) copied
