-- How many letters a line has at its end.
use Rattle.std.proofs.Common.{◌≡◌, ◌∙◌, ℕ, ◌-◌, ◌≤◌, Bool, List, length, drop, get_or, reverse, sym, ap, arith, inl, inr, nat_eq, nat_le, length-drop}
use Rattle.std.specs.List.{prefix_len, suffix_len}
use Rattle.std.proofs.lemmas.Bool.{cases_lt, false≢true}
use Rattle.std.proofs.lemmas.Bool.Decides.{nat_tests}
use Rattle.std.proofs.lemmas.List.{get_or-drop, get_or-reverse, length-reverse}
use Rattle.std.proofs.lemmas.List.Sums.{prefix_len_is, prefix_len_passes, prefix_len_stops, prefix_len-le-length}

module _ (p : ℕ → Bool) (xs : List ℕ) (k : ℕ) where
  -- the last ones pass, counted from the end
  last_pass : k ≤ suffix_len p xs → prefix_len p (drop (length xs - k) xs) ≡ k
  last_pass enough =
      let within : k ≤ length xs = omega (arith, enough, prefix_len-le-length p (reverse xs), length-reverse xs) in
      prefix_len_is p (drop (length xs - k) xs) k 0 (omega (arith, length-drop (length xs - k) xs, within))
      (λ i low. ap p (get_or-drop (length xs - k) xs i 0
      ∙ ap (λ j. get_or xs j 0) (omega (arith, within, low))
      ∙ sym (get_or-reverse xs (k - 1 - i) 0 (omega (arith, within, low))))
      ∙ prefix_len_passes p (reverse xs) (k - 1 - i) 0 (omega (arith, enough, low)))
      (λ more. absurd (omega (arith, more, length-drop (length xs - k) xs, within)))

  -- and counted from where they begin
  pass_last : prefix_len p (drop (length xs - k) xs) ≡ k → k ≤ suffix_len p xs
  pass_last all = elim (cases_lt (suffix_len p xs) k) [
    | inl few ↦
        let n = suffix_len p xs in
        let within : k ≤ length xs = omega (arith, all, prefix_len-le-length p (drop (length xs - k) xs), length-drop (length xs - k) xs) in
        let stops = prefix_len_stops p (reverse xs) 0 (omega (arith, few, within, length-reverse xs)) in
        let passes = prefix_len_passes p (drop (length xs - k) xs) (k - 1 - n) 0 (omega (arith, few, all)) in
        absurd (false≢true (sym stops ∙ ap p (get_or-reverse xs n 0 (omega (arith, few, within))
        ∙ ap (λ j. get_or xs j 0) (omega (arith, within, few))
        ∙ sym (get_or-drop (length xs - k) xs (k - 1 - n) 0)) ∙ passes))
    | inr enough ↦ enough
  ]

  pub last_letters : nat_eq (prefix_len p (drop (length xs - k) xs)) k ≡ nat_le k (suffix_len p xs)
  last_letters = elim (cases_lt (suffix_len p xs) k) [
    | inl few ↦ elim (cases_lt k (prefix_len p (drop (length xs - k) xs))) [
      | inl over ↦ grind (arith, nat_tests)
      | inr up ↦ elim (cases_lt (prefix_len p (drop (length xs - k) xs)) k) [
        | inl under ↦ grind (arith, nat_tests)
        | inr same ↦ absurd (omega (arith, few, pass_last (omega (arith, up, same))))
      ]
    ]
    | inr enough ↦ (let is = last_pass enough in grind (arith, nat_tests))
  ]
