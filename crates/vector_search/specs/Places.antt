-- Which places of some bytes pass a test.
use Rattle.std.specs.Prelude.{◌≡◌, ℕ, ◌<◌, ◌≤◌, Bool, true, false, List, map}
use Rattle.std.specs.List.{range_with_len}
use lib.Lanes.{mask_l}

-- bit k says whether the place at + k passes, for so many places from `at` on
unfoldable pub mask_of : (ℕ → Bool) → ℕ → ℕ → ℕ
mask_of test at count = mask_l (map test (range_with_len at count))

-- bit k says whether byte k of a vector passes
unfoldable pub bits_of : (ℕ → Bool) → List ℕ → ℕ
bits_of test bytes = mask_l (map test bytes)

-- no place from the first up to the end passes
abbrev pub NoneIn : (ℕ → Bool) → ℕ → ℕ → Type 0
NoneIn test first end = (place : ℕ) → first ≤ place → place < end → test place ≡ false

-- the next place, from the first up to the end, that passes, or the end where none does
pub record IsNext (test : ℕ → Bool) (first end next : ℕ) : Type 0 where
  pub low : first ≤ next
  pub high : next ≤ end
  pub before : NoneIn test first next
  pub passes : next < end → test next ≡ true
