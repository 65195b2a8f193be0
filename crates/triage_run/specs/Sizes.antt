-- How many bytes what is attached has.
use Rattle.std.specs.Prelude.{◌≡◌, ℕ, ◌<◌, ◌≤◌, List, length, Option, IsSomeAnd, MatchOption}
use Rattle.host_source.specs.Source.{Slot}

-- so many bytes: those that are told, or else those of the slot
abbrev pub IsSize : Option (List ℕ) → Option Slot → ℕ → Type 0
IsSize told slot size = MatchOption told (IsSomeAnd slot (λ s. size ≡ s.size)) (λ bytes. size ≡ length bytes)

-- so many, and no more than these
abbrev pub Fits : ℕ → Option (List ℕ) → Option Slot → Type 0
Fits most told slot = (size : ℕ) → IsSize told slot size → size ≤ most

-- so many, and more than these
pub record IsSizeAbove (most : ℕ) (told : Option (List ℕ)) (slot : Option Slot) (size : ℕ) : Type 0 where
  pub measured : IsSize told slot size
  pub above : most < size
