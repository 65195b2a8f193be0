-- How the patterns of a scan are built.
use Rattle.std.specs.Prelude.{◌≡◌, ℕ, ◌<◌, Bool, IsTrue, List, [], ◌∷◌, length, slice_index_or, Some}
use Rattle.byte_kit.specs.Counts.{Rose}
use Rattle.pattern_kit.specs.Building.{Refusals}
use Rattle.triage_run.specs.declared.status.Status.{Status}
use Rattle.triage_run.specs.declared.status.Status.TheVariants.{PatternRefused, NoMemory}

-- a kit may be asked for each of these patterns, by its index
abbrev pub MayBuild : (ℕ → List ℕ → Bool) → List (List ℕ) → Type 0
MayBuild may_build texts = (index : ℕ) (d : List ℕ) → index < length texts → IsTrue (may_build index (slice_index_or texts index d))

-- each text has the reading in its place
abbrev pub AreRead : {R : Type 0} → (List ℕ → R → Type 0) → List (List ℕ) → List R → Type 0
AreRead reads [] [] = Unit {0}
AreRead reads [] (reading ∷ readings) = ⊥
AreRead reads (text ∷ texts) [] = ⊥
AreRead reads (text ∷ texts) (reading ∷ readings) = reads text reading × AreRead reads texts readings

-- the refusals rose, and the last one is of this index
abbrev pub IsRefused : Refusals → Refusals → ℕ → Type 0
IsRefused before now index = Rose before.count now.count × (now.last ≡ Some index)

-- a pattern is refused only where that was counted; want of memory is free
abbrev pub IsBuildEnd : Refusals → Refusals → Status → Type 0
IsBuildEnd before now (PatternRefused index) = IsRefused before now index
IsBuildEnd before now NoMemory = Unit {0}
IsBuildEnd before now _ = ⊥
