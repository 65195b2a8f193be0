-- A source: bytes under names, of which some are attached to numbered slots.
use Rattle.std.specs.Prelude.{◌≡◌, ◌≢◌, ℕ, ◌+◌, ◌^◌, ◌<◌, ◌≤◌, ◌↔◌, Bool, IsTrue, List, length, take, drop, Option, Some, None, IsSome, IsSomeAnd, IfSome, option_and_then}
use Rattle.byte_kit.specs.Places.{put}

-- what a slot has attached: a name, and how many bytes it holds
pub record Slot : Type 0 where
  pub name : List ℕ
  pub size : ℕ

-- what a source never changes: what each name holds, where it tells that, and the names it may be asked for
pub record SourceNature : Type 0 where
  pub held : Option (List ℕ → Option (List ℕ))
  pub may_attach : List ℕ → Bool

-- the same names may be asked for, and nothing is told of what they hold
abbrev pub untold : SourceNature → SourceNature
untold nature = record { held = None; may_attach = nature.may_attach }

-- the bytes under a name, where the source tells them
abbrev pub told : SourceNature → List ℕ → Option (List ℕ)
told nature name = option_and_then (λ held. held name) nature.held

-- the bytes of a slot, where one is attached and the source tells them
abbrev pub told_at : SourceNature → (ℕ → Option Slot) → ℕ → Option (List ℕ)
told_at nature slots slot = option_and_then (λ s. told nature s.name) (slots slot)

-- no slot is attached
abbrev pub IsDetached : (ℕ → Option Slot) → Type 0
IsDetached slots = (slot : ℕ) → slots slot ≡ None

-- the name is attached to the slot, and the other slots are as before
pub record Attaches (nature : SourceNature) (old new : ℕ → Option Slot) (slot : ℕ) (name : List ℕ) (size : ℕ) : Type 0 where
  pub small : size < 2 ^ 57
  pub attached : new ≡ put old slot (Some (record { name = name; size = size }))
  pub there : IfSome nature.held (λ held. IsSome (held name))
  pub told : IfSome (told nature name) (λ bytes. size ≡ length bytes)

-- so many bytes stand from the place on in what the slot has attached
abbrev pub IsWithin : (ℕ → Option Slot) → ℕ → ℕ → ℕ → Type 0
IsWithin slots slot at count = IsSomeAnd (slots slot) (λ s. at + count ≤ s.size)

-- the bytes read are those of the slot from the place on, where the source tells them
abbrev pub Reads : SourceNature → (ℕ → Option Slot) → ℕ → ℕ → List ℕ → Type 0
Reads nature slots slot at read = IfSome (told_at nature slots slot) (λ bytes. read ≡ take (length read) (drop at bytes))

-- every name may be asked for
abbrev pub MayAttachAll : SourceNature → Type 0
MayAttachAll nature = (name : List ℕ) → IsTrue (nature.may_attach name)

-- no name is there
abbrev pub HoldsNothing : SourceNature → Type 0
HoldsNothing nature = (name : List ℕ) → told nature name ≡ None

-- the name holds these bytes, and every other name holds what it held
pub record AddsName (old new : SourceNature) (name bytes : List ℕ) : Type 0 where
  pub added : told new name ≡ Some bytes
  pub others : (other : List ℕ) → other ≢ name → told new other ≡ told old other

-- the name holds these bytes, and it is the one name that is there and that may be asked for
pub record HoldsOnly (nature : SourceNature) (name bytes : List ℕ) : Type 0 where
  pub holds : told nature name ≡ Some bytes
  pub others : (other : List ℕ) → other ≢ name → told nature other ≡ None
  pub asked : (other : List ℕ) → IsTrue (nature.may_attach other) ↔ (other ≡ name)
