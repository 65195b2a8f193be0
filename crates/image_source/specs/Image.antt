-- An image in parts: its bytes are those of the parts, one behind the other.
use Rattle.std.specs.Prelude.{◌≡◌, ℕ, ◌^◌, ◌<◌, ◌≤◌, List, [], ◌∷◌, ◌++◌, length, slice_get, Option, Some, None, IfSome, option_map, option_and_then}
use Rattle.std.specs.List.{sum_by}
use Rattle.host_source.specs.Source.{SourceNature, Slot, told}

-- the source of an image, the name and the size of each part, and the bytes that were loaded last
pub record Image (S : Type 0) : Type 0 where
  pub source : S
  pub parts : List Slot
  pub window : List ℕ

-- the bytes of the parts, one behind the other, where the source tells those of each
unfoldable pub joined : SourceNature → List Slot → Option (List ℕ)
joined nature [] = Some []
joined nature (part ∷ parts) =
    option_and_then (λ bytes. option_map (λ rest. bytes ++ rest) (joined nature parts)) (told nature part.name)

-- how many bytes the parts have together
abbrev pub size_of : List Slot → ℕ
size_of parts = sum_by (λ (part : Slot). part.size) parts

-- each part is attached to the slot of its number, and nothing to the slots behind them
abbrev pub AreAttached : (ℕ → Option Slot) → List Slot → Type 0
AreAttached slots parts = (slot : ℕ) → slots slot ≡ slice_get parts slot

-- nothing is attached but to the first slots
abbrev pub IsAttachedBelow : ℕ → (ℕ → Option Slot) → Type 0
IsAttachedBelow count slots = (slot : ℕ) → count ≤ slot → slots slot ≡ None

-- the size is that of what the source tells under the name
pub record IsPart (nature : SourceNature) (part : Slot) : Type 0 where
  pub small : part.size < 2 ^ 57
  pub told : IfSome (told nature part.name) (λ bytes. part.size ≡ length bytes)
