-- Lists of sources before a call and after it, and the image that they hold.
use Rattle.std.specs.Prelude.{◌≡◌, ◌⊎◌, ℕ, List, [], ◌∷◌, length, Option, Some, None, IfSome}
use Rattle.std.specs.List.{All, AllPass}
use Rattle.byte_kit.specs.Counts.{Rose}
use Rattle.host_source.specs.Source.{SourceNature, Slot, IsDetached, told}
use Rattle.image_source.specs.Image.{IsAttachedBelow}
use Rattle.triage_run.specs.declared.words.Scan.{Scan}
use Rattle.triage_run.specs.Case.{joined}

-- as many come back, and each is related to the one in its place
abbrev pub Pairwise : {A : Type 0} → (A → A → Type 0) → List A → List A → Type 0
Pairwise R [] [] = Unit {0}
Pairwise R [] (y ∷ ys) = ⊥
Pairwise R (x ∷ xs) [] = ⊥
Pairwise R (x ∷ xs) (y ∷ ys) = R x y × Pairwise R xs ys

-- some come back related to the one in their place
abbrev pub SomePair : {A : Type 0} → (A → A → Type 0) → List A → List A → Type 0
SomePair R [] ys = ⊥
SomePair R (x ∷ xs) [] = ⊥
SomePair R (x ∷ xs) (y ∷ ys) = R x y ⊎ SomePair R xs ys

-- the count of a source rose
abbrev pub SourceRose : {S : Type 0} → (S → ℕ) → List S → List S → Type 0
SourceRose faults old new = SomePair (λ s t. Rose (faults s) (faults t)) old new

-- ---- what a call asks of its sources

-- either no source tells, or all tell the same
abbrev pub TellAlike : {S : Type 0} → (S → SourceNature) → List S → Type 0
TellAlike nature [] = Unit {0}
TellAlike nature (s ∷ sources) = All (λ t. (nature t).held ≡ (nature s).held) sources

-- nothing is attached, and the parts that the words name may be asked for
pub record IsReady {S : Type 0} (nature : S → SourceNature) (slots : S → ℕ → Option Slot) (scan : Option Scan) (source : S) : Type 0 where
  pub detached : IsDetached (slots source)
  pub asked : IfSome scan (λ s. AllPass (nature source).may_attach s.parts)

-- ---- the image

-- the bytes of the image that a scan names, where they are told
abbrev pub image_named : (List ℕ → Option (List ℕ)) → Option Scan → Option (List ℕ)
image_named told (Some scan) = joined told scan.parts
image_named told None = None

-- the bytes of that image, where the sources tell them
abbrev pub image_told : {S : Type 0} → (S → SourceNature) → List S → Option Scan → Option (List ℕ)
image_told nature [] scan = None
image_told nature (s ∷ sources) scan = image_named (told (nature s)) scan

-- ---- the slots

-- the slots of the first source
abbrev pub first_slots : {S : Type 0} → (S → ℕ → Option Slot) → List S → ℕ → Option Slot
first_slots slots [] slot = None
first_slots slots (s ∷ sources) slot = slots s slot

-- how many parts a scan names
abbrev pub part_count : Option Scan → ℕ
part_count (Some scan) = length scan.parts
part_count None = 0

-- nothing is attached but to the slots of the parts
abbrev pub OnlyParts : Option Scan → (ℕ → Option Slot) → Type 0
OnlyParts scan slots = IsAttachedBelow (part_count scan) slots
