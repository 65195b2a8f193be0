-- The run behind a scheme may be counted in the bytes that a URL can have.
use Rattle.std.proofs.Common.{◌≡◌, ◌≢◌, ℕ, ◌+◌, ◌-◌, ◌≤◌, Bool, true, false, cond, List, [], ◌∷◌, length, take, min, refl, arith, Some, None, zero, suc}
use Rattle.std.specs.List.{prefix_len}
use Rattle.scan_url.specs.declared.url.TheConstants.{URL_MOST}
use Rattle.scan_url.specs.Url.{url_of_run}
use Rattle.std.proofs.lemmas.List.Sums.{prefix_len-le-length}

pub prefix_len-take : (p : ℕ → Bool) (k : ℕ) (xs : List ℕ) → prefix_len p (take k xs) ≡ min k (prefix_len p xs)
prefix_len-take p zero xs = omega arith
prefix_len-take p (suc k) [] = omega arith
prefix_len-take p (suc k) (x ∷ xs) =
    elim (p x) as (λ b. cond b (1 + prefix_len p (take k xs)) 0 ≡ min (suc k) (cond b (1 + prefix_len p xs) 0))
    [ true ↦ omega (arith, prefix_len-take p k xs) | false ↦ omega arith ]

-- nothing stands behind the scheme
pub no_run : (p : ℕ → Bool) (scheme : ℕ) (rest : List ℕ) (run : ℕ) → scheme ≤ 8 →
    run ≡ prefix_len p (take (min (length rest) (URL_MOST - scheme)) rest) → run ≡ 0 → None ≡ url_of_run scheme (prefix_len p rest)
no_run p scheme rest run short is none =
    let e : prefix_len p rest ≡ 0 =
    omega (arith, prefix_len-take p (min (length rest) (URL_MOST - scheme)) rest, prefix_len-le-length p rest) in
    rw e refl

-- the scheme and the run are the URL
pub some_run : (p : ℕ → Bool) (scheme : ℕ) (rest : List ℕ) (run : ℕ) → scheme ≤ 8 →
    run ≡ prefix_len p (take (min (length rest) (URL_MOST - scheme)) rest) → run ≢ 0 → Some (scheme + run) ≡ url_of_run scheme (prefix_len p rest)
some_run p scheme rest run short is some =
    let taken = prefix_len-take p (min (length rest) (URL_MOST - scheme)) rest in
    let bound = prefix_len-le-length p rest in
    grind arith
