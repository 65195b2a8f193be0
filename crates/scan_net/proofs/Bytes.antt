-- The bytes of a slice, one by one.
use Rattle.std.proofs.Common.{◌≡◌, ℕ, suc, ◌+◌, ◌<◌, ◌≤◌, List, ◌∷◌, length, drop, drop-cons, refl, arith}
use Rattle.std.specs.Prelude.{slice_index}

-- they fit a byte
abbrev pub Fit : List ℕ → Type 0
Fit bytes = (i : ℕ) → slice_index bytes i < 256

-- two of them from a place on, and the rest
pub two_from : (bytes : List ℕ) (at : ℕ) → at + 2 ≤ length bytes
    → drop at bytes ≡ slice_index bytes at ∷ slice_index bytes (at + 1) ∷ drop (at + 2) bytes
two_from bytes at fits =
    let first : at < length bytes = omega arith in
    let second : suc at < length bytes = omega arith in
    let one : suc at ≡ at + 1 = omega arith in
    let two : suc (suc at) ≡ at + 2 = omega arith in
    rw (drop-cons bytes at 0) (rw (drop-cons bytes (suc at) 0) (rw (two, one) refl))
