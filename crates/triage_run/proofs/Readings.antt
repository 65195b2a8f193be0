-- The readings of a list of patterns, one by one.
use Rattle.std.proofs.Common.{◌≡◌, ℕ, zero, suc, ◌<◌, List, [], ◌∷◌, ◌++◌, length, take, refl, arith, ap}
use Rattle.std.specs.Prelude.{slice_index_or}
use Rattle.triage_run.specs.Patterns.{AreRead}

-- one text more, with its reading
pub read_more : {R : Type 0} (reads : List ℕ → R → Type 0) (texts : List (List ℕ)) (readings : List R) (k : ℕ) (d : List ℕ) (reading : R) →
    k < length texts → AreRead reads (take k texts) readings → reads (slice_index_or texts k d) reading → AreRead reads (take (suc k) texts) (readings ++ reading ∷ [])
read_more reads [] readings k d reading lt read here = absurd (omega (arith, lt))
read_more reads (text ∷ texts) [] zero d reading lt read here = (here, tt)
read_more reads (text ∷ texts) (r ∷ readings) zero d reading lt read here = absurd read
read_more reads (text ∷ texts) [] (suc k) d reading lt read here = absurd read
read_more reads (text ∷ texts) (r ∷ readings) (suc k) d reading lt read here = (read.0, read_more reads texts readings k d reading (omega (arith, lt)) read.1 here)

-- there are as many readings as texts
pub read_length : {R : Type 0} (reads : List ℕ → R → Type 0) (texts : List (List ℕ)) (readings : List R) → AreRead reads texts readings → length readings ≡ length texts
read_length reads [] [] read = refl
read_length reads [] (r ∷ readings) read = absurd read
read_length reads (text ∷ texts) [] read = absurd read
read_length reads (text ∷ texts) (r ∷ readings) read = ap suc (read_length reads texts readings read.1)
