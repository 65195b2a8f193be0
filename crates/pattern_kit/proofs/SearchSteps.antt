-- The steps of a loop that searches: what a search passes, and the lengths behind and ahead of it.
use Rattle.std.proofs.Common.{◌≡◌, ◌≢◌, ℕ, ◌+◌, ◌-◌, ◌<◌, ◌≤◌, List, length, take, set, get_or, Option, ap, ◌∙◌, sym, subst, inl, inr, arith, get_or-set_other, get_or-set_same}
use Rattle.std.proofs.lemmas.Bool.{cases_lt, cases_eq}
use Rattle.pattern_kit.specs.declared.TheConstants.{PATTERN_REACH}
use Rattle.pattern_kit.specs.Matching.{length_at}
use Rattle.pattern_kit.specs.Meanings.{AreBytes}
use Rattle.pattern_kit.specs.Passing.{IsPassed, IsSieve}

-- no match at a place that a search passed, which saw all that the place sees
pub passed : (search pattern : List ℕ → Option ℕ) → IsSieve search pattern → (bytes near : List ℕ) → AreBytes bytes →
    (most place : ℕ) (found : Option ℕ) → near ≡ take most bytes → found ≡ search near → place + PATTERN_REACH ≤ most →
    place < length bytes → IsPassed found place → length_at pattern bytes place ≡ 0
unfolding length_at
passed search pattern sieve bytes near are_bytes most place found is_near is_found within inside ahead =
    sieve bytes are_bytes most PATTERN_REACH place within inside (subst (λ f. IsPassed f place) (is_found ∙ ap search is_near) ahead)

module _ (lens : List ℕ) (done count value : ℕ) (moves : 0 < count) (within : done + count ≤ length lens) where
  other : (k : ℕ) → k ≢ done + count - 1 → get_or (set lens (done + count - 1) value) k 0 ≡ get_or lens k 0
  other k ne = rw get_or-set_other

  here : get_or (set lens (done + count - 1) value) (done + count - 1) 0 ≡ value
  here = let lt : done + count - 1 < length lens = omega arith in rw get_or-set_same

  -- the lengths so far are known, those ahead are 0, and the step finds all but its last to be 0
  pub behind : (known : ℕ → ℕ) → ((k : ℕ) → k < done → get_or lens k 0 ≡ known k) → ((k : ℕ) → done ≤ k → get_or lens k 0 ≡ 0) →
      ((k : ℕ) → k + 1 < count → known (done + k) ≡ 0) → ((k : ℕ) → k + 1 ≡ count → known (done + k) ≡ value) →
      (k : ℕ) → k < done + count → get_or (set lens (done + count - 1) value) k 0 ≡ known k
  behind known so_far ahead none last k lt = elim (cases_eq k (done + count - 1)) [
    | inl eq ↦
        let from : done + (k - done) ≡ k = omega arith in
        ap (λ i. get_or (set lens (done + count - 1) value) i 0) eq ∙ here ∙ sym (last (k - done) (omega arith)) ∙ ap known from
    | inr ne ↦ elim (cases_lt k done) [
      | inl old ↦ other k ne ∙ so_far k old
      | inr new ↦
          let from : done + (k - done) ≡ k = omega arith in
          other k ne ∙ ahead k new ∙ sym (none (k - done) (omega arith)) ∙ ap known from
    ]
  ]

  pub ahead : ((k : ℕ) → done ≤ k → get_or lens k 0 ≡ 0) → (k : ℕ) → done + count ≤ k → get_or (set lens (done + count - 1) value) k 0 ≡ 0
  ahead zero k le = let ne : k ≢ done + count - 1 = omega arith in other k ne ∙ zero k (omega arith)
