-- Slots in an array: what a fresh array attaches, and what a write to one slot changes.
use Rattle.std.proofs.Common.{◌≡◌, ℕ, zero, suc, ◌<◌, List, length, get_or, set, replicate, refl, arith}
use Rattle.std.proofs.lemmas.Grind.{common_steps}
use Rattle.byte_kit.specs.Places.{put}

-- each place of a blank array is blank, also past its end
pub get_or_blank : {A : Type 0} (n k : ℕ) (d : A) → get_or (replicate n d) k d ≡ d
get_or_blank zero k d = refl
get_or_blank (suc n) zero d = refl
get_or_blank (suc n) (suc k) d = get_or_blank n k d

-- a write to one slot puts its value there
pub put-set : {A B : Type 0} (f : A → B) (xs : List A) (i : ℕ) (v d : A) → i < length xs →
    (k : ℕ) → f (get_or (set xs i v) k d) ≡ put (λ j. f (get_or xs j d)) i (f v) k
put-set f xs i v d lt k = grind (arith, common_steps)
