-- A part that is added is attached to its slot, where that was free.
use Rattle.std.proofs.Common.{◌≡◌, ℕ, Bool, true, false, nat_eq, cond, List, [], ◌∷◌, ◌++◌, refl, sym, ap, ◌∙◌, Option, Some, None}
use Rattle.std.proofs.lemmas.Bool.{eqb-true, eq-eqb}
use mathlib.Core.Path.{fun_ext}
use Rattle.byte_kit.specs.Places.{put}
use Rattle.host_source.specs.Source.{Slot}
use Rattle.triage.specs.declared.file_source.Part.{Part}
use Rattle.triage.specs.Parts.{slots_of}

-- two tests that can't both hold
swapped : (a b : Bool) (x y rest : Option Slot) → (a ≡ true → b ≡ true → ⊥) → cond a x (cond b y rest) ≡ cond b y (cond a x rest)
swapped true true x y rest apart = absurd (apart refl refl)
swapped true false x y rest apart = refl
swapped false true x y rest apart = refl
swapped false false x y rest apart = refl

-- a choice of nothing is not the first one
no_first : (test : Bool) (x : Slot) (rest : Option Slot) → cond test (Some x) rest ≡ None → (test ≡ false) × (rest ≡ None)
no_first true x rest none = cc
no_first false x rest none = (refl, none)

apart : (slot a b : ℕ) → nat_eq b a ≡ false → nat_eq slot a ≡ true → nat_eq slot b ≡ true → ⊥
apart slot a b differ is_a is_b = let same = eq-eqb b a (sym (eqb-true slot b is_b) ∙ eqb-true slot a is_a) in cc

added_at : (parts : List Part) (part : Part) → slots_of parts part.slot ≡ None → (slot : ℕ) →
    slots_of (parts ++ part ∷ []) slot ≡ put (slots_of parts) part.slot (Some (record { name = part.name; size = part.size })) slot
added_at [] part free slot = refl
added_at (p ∷ parts) part free slot =
    let first = no_first (nat_eq part.slot p.slot) (record { name = p.name; size = p.size }) (slots_of parts part.slot) free in
    ap (λ (rest : Option Slot). cond (nat_eq slot p.slot) (Some (record { name = p.name; size = p.size })) rest) (added_at parts part first.1 slot)
    ∙ swapped (nat_eq slot p.slot) (nat_eq slot part.slot) (Some (record { name = p.name; size = p.size })) (Some (record { name = part.name; size = part.size })) (slots_of parts slot)
    (apart slot p.slot part.slot first.0)

pub slots_of-add : (parts : List Part) (part : Part) → slots_of parts part.slot ≡ None →
    slots_of (parts ++ part ∷ []) ≡ put (slots_of parts) part.slot (Some (record { name = part.name; size = part.size }))
slots_of-add parts part free = fun_ext (added_at parts part free)
