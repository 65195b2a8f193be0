-- Where so many places in a row pass no test.
use Rattle.std.specs.Prelude.{ℕ, ◌+◌, ◌<◌, ◌≤◌, Bool}
use Rattle.vector_search.specs.Places.{NoneIn}
use Rattle.vector_search.specs.declared.rows.TheConstants.{ROW}

-- a row stands at the place: `ROW` places from it on, all ahead of the end, none of which is a stranger's
abbrev pub IsRow : (ℕ → Bool) → ℕ → ℕ → Type 0
IsRow stranger end place = (place + ROW ≤ end) × NoneIn stranger place (place + ROW)

-- no row stands at a place from the first up to the last, which is not one of them
abbrev pub NoRowIn : (ℕ → Bool) → ℕ → ℕ → ℕ → Type 0
NoRowIn stranger end first last = (place : ℕ) → first ≤ place → place < last → IsRow stranger end place → ⊥

-- the next place, from the first up to the last, at which a row stands, or the last where none does
pub record IsNextRow (stranger : ℕ → Bool) (end first last next : ℕ) : Type 0 where
  pub low : first ≤ next
  pub high : next ≤ last
  pub before : NoRowIn stranger end first next
  pub stands : next < last → IsRow stranger end next
