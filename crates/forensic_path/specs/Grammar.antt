-- Which texts are those of paths, and what a reader answers to them.
use Rattle.std.specs.Prelude.{◌≡◌, ℕ, ◌^◌, ◌<◌, List, length, flat_map, All, Result, Ok, Err}
use Rattle.forensic_path.specs.PathText.{step_text, path_text_of}
use Rattle.forensic_path.specs.declared.path.TheConstants.{STEPS_MOST}
use Rattle.forensic_path.specs.declared.path.Decoder.{Decoder}
use Rattle.forensic_path.specs.declared.path.Decoder.TheVariants.{Base64, Hex, Utf16, Xor}
use Rattle.forensic_path.specs.declared.path.Step.{Step}
use Rattle.forensic_path.specs.declared.path.Path.{Path}
use Rattle.forensic_path.specs.declared.fault.PathFault.{PathFault}
use Rattle.forensic_path.specs.declared.fault.PathFault.TheVariants.{Form, Deep, NoMemory}

-- a mask is 1 to 255
abbrev pub IsLawfulDecoder : Decoder → Type 0
IsLawfulDecoder Base64 = Unit {0}
IsLawfulDecoder Hex = Unit {0}
IsLawfulDecoder Utf16 = Unit {0}
IsLawfulDecoder (Xor mask) = (0 < mask) × (mask < 256)

-- and a place is below 2^64
pub record IsLawfulStep (step : Step) : Type 0 where
  pub decoder : IsLawfulDecoder step.by
  pub place : step.at < 2 ^ 64

-- a path: all its places are below 2^64, and its masks are 1 to 255
pub record IsLawful (path : Path) : Type 0 where
  pub top : path.top < 2 ^ 64
  pub steps : All IsLawfulStep path.steps

-- the path is lawful, and this is its text; a text that no such path has is not in the grammar
pub record HasText (path : Path) (text : List ℕ) : Type 0 where
  pub lawful : IsLawful path
  pub is : path_text_of path ≡ text

-- the same of steps alone
pub record HaveText (steps : List Step) (text : List ℕ) : Type 0 where
  pub lawful : All IsLawfulStep steps
  pub is : flat_map step_text steps ≡ text

-- the answer is this value, or says how many steps it has, or is want of memory
abbrev pub IsReadAs : {A : Type 0} → A → ℕ → Result A PathFault → Type 0
IsReadAs value steps (Ok read) = read ≡ value
IsReadAs value steps (Err (Deep told)) = told ≡ steps
IsReadAs value steps (Err NoMemory) = Unit {0}
IsReadAs value steps (Err Form) = ⊥

-- a fault that tells a number of steps is of the text of a path with so many, which are too many
abbrev pub TellsDeepPath : List ℕ → PathFault → Type 0
TellsDeepPath text (Deep told) =
    (path : Path) × HasText path text × (length path.steps ≡ told) × (STEPS_MOST < told)
TellsDeepPath text Form = Unit {0}
TellsDeepPath text NoMemory = Unit {0}

-- the same of the text of steps alone
abbrev pub TellsDeepSteps : List ℕ → PathFault → Type 0
TellsDeepSteps text (Deep told) =
    (steps : List Step) × HaveText steps text × (length steps ≡ told) × (STEPS_MOST < told)
TellsDeepSteps text Form = Unit {0}
TellsDeepSteps text NoMemory = Unit {0}
