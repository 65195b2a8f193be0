-- Bytes that are no letters.
use Rattle.std.proofs.Common.{◌≡◌, ℕ, suc, ◌+◌, ◌<◌, not, Bool, true, false, cond, List, [], ◌∷◌, take, filter, refl, ap, arith}
use Rattle.std.specs.List.{prefix_len}
use Rattle.std.proofs.lemmas.Bool.{agree_below_at}
use Rattle.byte_kit.specs.Classes.{base64_class}
use Rattle.vector_search.specs.Classes.{is_outside}
use Rattle.decode_base64.specs.declared.letters.TheConstants.{COLUMNS, ROWS}

-- the tables tell the bytes that are no letters
pub no_letter : (byte : ℕ) → byte < 256 → is_outside COLUMNS ROWS byte ≡ not (base64_class byte)
unfolding base64_class
no_letter byte small = agree_below_at (is_outside COLUMNS ROWS) (λ b. not (base64_class b)) 256 byte refl small

-- ---- a run and the byte behind it

kept_more : (p : ℕ → Bool) (b : Bool) (x n : ℕ) (xs : List ℕ) → filter p (take (suc n) xs) ≡ take n xs
    → cond b (x ∷ filter p (take (cond b (1 + n) 0) xs)) (filter p (take (cond b (1 + n) 0) xs)) ≡ take (cond b (1 + n) 0) (x ∷ xs)
kept_more p true x n xs rest =
    let e : 1 + n ≡ suc n = omega arith in
    rw e (ap (λ more. x ∷ more) rest)
kept_more p false x n xs rest = refl

-- the letters of both are the run
pub run_kept : (p : ℕ → Bool) (xs : List ℕ) → filter p (take (suc (prefix_len p xs)) xs) ≡ take (prefix_len p xs) xs
run_kept p [] = refl
run_kept p (x ∷ xs) = kept_more p (p x) x (prefix_len p xs) xs (run_kept p xs)
