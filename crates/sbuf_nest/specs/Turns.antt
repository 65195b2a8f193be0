-- How the places of nested buffers make a path.
use Rattle.std.specs.Prelude.{ℕ, Bool, true, false, List, [], ◌∷◌, ◌++◌}
use Rattle.std.specs.List.{list_any}
use Rattle.forensic_path.specs.declared.path.Decoder.{Decoder}
use Rattle.forensic_path.specs.declared.path.Decoder.TheVariants.{Base64, Hex, Utf16, Xor}
use Rattle.forensic_path.specs.declared.path.Step.{Step}
use Rattle.forensic_path.specs.declared.path.Path.{Path}
use Rattle.sbuf_nest.specs.declared.trail.Turn.{Turn}

-- the turns so far, and how many there may be
pub record Way : Type 0 where
  pub limit : ℕ
  pub turns : List Turn

-- the turns with one more, at the place
abbrev pub turned : List Turn → ℕ → Decoder → List Turn
turned turns place by = turns ++ record { from = place; by = by } ∷ []

-- the steps behind a first place: each decoder with the place that follows it
abbrev pub steps_from : Decoder → List Turn → ℕ → List Step
steps_from by [] place = record { by = by; at = place } ∷ []
steps_from by (turn ∷ turns) place = record { by = by; at = turn.from } ∷ steps_from turn.by turns place

-- the path of a place in the buffer that the turns lead to
abbrev pub path_at : List Turn → ℕ → Path
path_at [] place = record { top = place; steps = [] }
path_at (turn ∷ turns) place = record { top = turn.from; steps = steps_from turn.by turns place }

abbrev pub is_xor : Decoder → Bool
is_xor (Xor mask) = true
is_xor Base64 = false
is_xor Hex = false
is_xor Utf16 = false

-- a XOR view was taken on the way
abbrev pub has_xor : List Turn → Bool
has_xor turns = list_any (λ (turn : Turn). is_xor turn.by) turns
