-- The rows of what a map keeps: each key has one.
use Rattle.std.proofs.Common.{◌≡◌, ℕ, ◌<◌, false, List, [], ◌∷◌, Vec, bytes_eq, All, map}
use Rattle.std.specs.List.{IsDistinct, AllByRecursion}
use Rattle.std.specs.Map.{keys_of, values_of}
use Rattle.std.proofs.lemmas.List.Elements.{All-nil, All-cons, All-head, All-tail}
use Rattle.count_histogram.specs.declared.row.Row.{Row}
use Rattle.count_histogram.specs.Counts.{rows_kept, AreAdded, IsTally}

module _ {Z : Type 0} where
  apart : (item : List ℕ) (es : List (Vec ℕ Z × ℕ)) → AllByRecursion (λ k. bytes_eq item k.items ≡ false) (keys_of es) → AllByRecursion (λ other. bytes_eq item other ≡ false) (map (λ (row : Row). row.item) (rows_kept es))
  apart item [] h = tt
  apart item (e ∷ es) h = (h.0, apart item es h.1)

  once : (es : List (Vec ℕ Z × ℕ)) → IsDistinct (λ x y. bytes_eq x.items y.items) (keys_of es) → IsDistinct bytes_eq (map (λ (row : Row). row.item) (rows_kept es))
  unfolding IsDistinct
  once [] h = tt
  once (e ∷ es) h = (apart e.0.items es h.0, once es h.1)

  added : (es : List (Vec ℕ Z × ℕ)) → AreAdded es → All (λ (row : Row). 0 < row.count) (rows_kept es)
  added [] h = All-nil (λ (row : Row). 0 < row.count)
  added (e ∷ es) h = All-cons (λ (row : Row). 0 < row.count) _ _ (All-head (λ n. 0 < n) e.1 (values_of es) h) (added es (All-tail (λ n. 0 < n) e.1 (values_of es) h))

  pub tally : (es : List (Vec ℕ Z × ℕ)) → IsDistinct (λ x y. bytes_eq x.items y.items) (keys_of es) → AreAdded es → IsTally (rows_kept es)
  tally es h a = record { once = once es h; added = added es a }
