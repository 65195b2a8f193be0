-- When texts have one meaning each.
use Rattle.std.specs.Prelude.{◌≡◌, ℕ, ◌<◌, List, Option, slice_index}

-- each number is that of a byte
abbrev pub AreBytes : List ℕ → Type 0
AreBytes numbers = (k : ℕ) → slice_index numbers k < 256

-- Each text has one meaning: whatever it is read as, the same bytes are matched alike.
abbrev pub HaveOneMeaning : {Reading : Type 0} → (List ℕ → Reading → Type 0) → (Reading → List ℕ → Option ℕ) → Type 0
HaveOneMeaning {Reading} reads matches =
    (text bytes : List ℕ) (a b : Reading) → AreBytes bytes → reads text a → reads text b → matches a bytes ≡ matches b bytes
