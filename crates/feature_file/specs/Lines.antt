-- Which texts are lines of a feature file, and of what.
use Rattle.std.specs.Prelude.{◌≡◌, ◌≢◌, ℕ, ◌≤◌, List, ◌∷◌, ◌++◌, length, All, Option, Some, None}
use Rattle.forensic_path.specs.Grammar.{IsLawful, HasText}
use Rattle.forensic_path.specs.declared.path.TheConstants.{STEPS_MOST}
use Rattle.forensic_path.specs.declared.path.Path.{Path}
use Rattle.feature_escape.specs.Escape.{AreBytes}
use Rattle.feature_file.specs.FeatureFile.{line_of}
use Rattle.feature_file.specs.declared.read.TheConstants.{TAB}
use Rattle.feature_file.specs.declared.read.Line.{Line}

-- the text is the line of this path, feature and context: a lawful path of at most seven steps, and bytes
pub record IsLine (path : Path) (feature context text : List ℕ) : Type 0 where
  pub lawful : IsLawful path
  pub few : length path.steps ≤ STEPS_MOST
  pub feature_bytes : AreBytes feature
  pub context_bytes : AreBytes context
  pub is : line_of path feature context ≡ text

-- the text is the line of nothing
abbrev pub IsNoLine : List ℕ → Type 0
IsNoLine text = (path : Path) (feature context : List ℕ) → IsLine path feature context text → ⊥

-- what is read is this path, feature and context
abbrev pub IsReadAs : Path → List ℕ → List ℕ → Option Line → Type 0
IsReadAs path feature context (Some line) = (line.path ≡ path) × (line.feature ≡ feature) × (line.context ≡ context)
IsReadAs path feature context None = ⊥

-- the text is that of no path that a line may have
abbrev pub IsNoPath : List ℕ → Type 0
IsNoPath text = (path : Path) → HasText path text → length path.steps ≤ STEPS_MOST → ⊥

-- no byte is a TAB
abbrev pub HasNoTab : List ℕ → Type 0
HasNoTab bytes = All (λ byte. byte ≢ TAB) bytes

-- what stands ahead of a text's first TAB, and what stands behind it
pub record IsCutAtTab (text front rest : List ℕ) : Type 0 where
  pub whole : text ≡ front ++ TAB ∷ rest
  pub first : HasNoTab front
