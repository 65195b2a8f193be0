-- Letters that are gathered at the front of a room, run by run.
use Rattle.std.proofs.Common.{◌≡◌, ◌∙◌, ℕ, suc, ◌+◌, ◌≤◌, Bool, cond, List, ◌++◌, length, take, drop, filter, sym, ap, arith}
use Rattle.std.specs.List.{prefix_len}
use Rattle.std.proofs.lemmas.List.{append_assoc, length-append, take_at, drop_at, drop-drop}
use Rattle.std.proofs.lemmas.List.Elements.{filter-append}
use Rattle.std.proofs.lemmas.List.Sums.{length-filter, sum_by-take-le}
use Rattle.decode_base64.proofs.Counts.{take_plus}
use Rattle.decode_base64.proofs.Strangers.{run_kept}

module _ (p : ℕ → Bool) (xs : List ℕ) where
  -- no more than in all
  some_of_all : (n : ℕ) → length (filter p (take n xs)) ≤ length (filter p xs)
  some_of_all n = omega (arith, length-filter p (take n xs), length-filter p xs, sum_by-take-le (λ x. cond (p x) 1 0) xs n)

  module _ (at : ℕ) (rest line : List ℕ) (n : ℕ) (behind : rest ≡ drop at xs) (run : n ≡ prefix_len p rest) (front : line ≡ take n rest) where
    -- the run behind what was passed, and the byte behind the run
    pub line_kept : filter p (take (at + (n + 1)) xs) ≡ filter p (take at xs) ++ line
    line_kept =
        let e : n + 1 ≡ suc n = omega arith in
        ap (filter p) (take_plus at (n + 1) xs)
        ∙ filter-append p (take at xs) (take (n + 1) (drop at xs))
        ∙ ap (λ ys. filter p (take at xs) ++ filter p (take (n + 1) ys)) (sym behind)
        ∙ ap (λ m. filter p (take at xs) ++ filter p (take m rest)) (e ∙ ap (λ m. suc m) run)
        ∙ ap (λ ys. filter p (take at xs) ++ ys) (run_kept p rest ∙ ap (λ m. take m rest) (sym run) ∙ sym front)

    -- all that is kept has room where all letters have
    pub line_fits : length (filter p (take at xs)) + length line ≤ length (filter p xs)
    line_fits = omega (arith, ap length line_kept, length-append (filter p (take at xs)) line, some_of_all (at + (n + 1)))

-- a line put behind what stands in front
pub line_behind : (front old room line : List ℕ) (n k : ℕ) → n ≡ length front → room ≡ front ++ drop n old →
    take n room ++ (line ++ drop k (drop n room)) ≡ (front ++ line) ++ drop (n + k) old
line_behind front old room line n k long is =
    let ahead = ap (take n) is ∙ take_at front (drop n old) n (sym long) in
    let behind = ap (λ ys. drop k (drop n ys)) is ∙ ap (drop k) (drop_at front (drop n old) n (sym long)) ∙ drop-drop k n old in
    ap (λ ys. ys ++ (line ++ drop k (drop n room))) ahead
    ∙ ap (λ ys. front ++ (line ++ ys)) behind
    ∙ sym (append_assoc front line (drop (n + k) old))
