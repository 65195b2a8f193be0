-- Keywords are chained from the last one to the first.
use Rattle.std.proofs.Common.{◌≡◌, ◌∙◌, ℕ, ◌+◌, ◌<◌, ◌≤◌, List, length, get_or, set, replicate, sym, ap, subst, inl, inr, arith}
use Rattle.std.proofs.lemmas.Bool.{cases_eq}
use Rattle.std.proofs.lemmas.List.{get_or-set_same, get_or-set_other, get_or-replicate, length-set, length-replicate}
use Rattle.scan_find.specs.Chains.{IsNextWith}

-- the keywords from an index on are chained
pub record AreLast (keywords : List (List ℕ)) (heads nexts : List ℕ) (from : ℕ) : Type 0 where
  pub heads_long : length heads ≡ 256
  pub nexts_long : length nexts ≡ 64
  pub first : (byte : ℕ) → byte < 256 → IsNextWith keywords byte from (get_or heads byte 0)
  pub next : (k : ℕ) (d : List ℕ) → from ≤ k → k < length keywords → IsNextWith keywords (get_or (get_or keywords k d) 0 0) (k + 1) (get_or nexts k 0)

module _ (keywords : List (List ℕ)) where
  -- none of them
  pub none_chained : (nexts : List ℕ) → length nexts ≡ 64 → AreLast keywords (replicate 256 (length keywords)) nexts (length keywords)
  none_chained nexts long = record {
    heads_long = length-replicate 256 (length keywords);
    nexts_long = long;
    first = λ byte small.
        subst (IsNextWith keywords byte (length keywords)) (sym (get_or-replicate 256 byte (length keywords) 0 small))
        (record {
          low = omega arith;
          high = omega arith;
          none = λ k d low high. absurd (omega (arith, low, high));
          begins = λ d below. absurd (omega (arith, below));
        });
    next = λ k d low high. absurd (omega (arith, low, high));
  }

  -- one more
  module _ (heads nexts : List ℕ) (which byte : ℕ) (are : AreLast keywords heads nexts (which + 1)) (within : which < length keywords) (few : length keywords ≤ 64)
      (small : byte < 256) (is : (d : List ℕ) → byte ≡ get_or (get_or keywords which d) 0 0) where
    first_of : (other : ℕ) → other < 256 → IsNextWith keywords other which (get_or (set heads byte which) other 0)
    first_of other below =
        elim (cases_eq other byte) [
          | inl same ↦
              subst (IsNextWith keywords other which) (sym (ap (λ k. get_or (set heads byte which) k 0) same ∙ get_or-set_same heads byte which 0 (omega (arith, are.heads_long))))
              (record {
                low = omega arith;
                high = omega arith;
                none = λ k d low high. absurd (omega (arith, low, high));
                begins = λ d below. sym (is d) ∙ sym same;
              })
          | inr differs ↦
              let before = are.first other below in
              subst (IsNextWith keywords other which) (sym (get_or-set_other heads byte other which 0 differs))
              (record {
                low = omega (arith, before.low);
                high = before.high;
                none = λ k d low high.
                    elim (cases_eq k which) [
                      | inl same ↦ λ e. differs (sym e ∙ ap (λ j. get_or (get_or keywords j d) 0 0) same ∙ sym (is d))
                      | inr further ↦ before.none k d (omega (arith, low, further)) high
                    ];
                begins = before.begins;
              })
        ]

    next_of : (k : ℕ) (d : List ℕ) → which ≤ k → k < length keywords →
        IsNextWith keywords (get_or (get_or keywords k d) 0 0) (k + 1) (get_or (set nexts which (get_or heads byte 0)) k 0)
    next_of k d low high =
        elim (cases_eq k which) [
          | inl same ↦
              subst (λ j. IsNextWith keywords (get_or (get_or keywords j d) 0 0) (j + 1) (get_or (set nexts which (get_or heads byte 0)) j 0)) (sym same)
              (subst (IsNextWith keywords (get_or (get_or keywords which d) 0 0) (which + 1)) (sym (get_or-set_same nexts which (get_or heads byte 0) 0 (omega (arith, are.nexts_long))))
              (subst (λ b. IsNextWith keywords b (which + 1) (get_or heads byte 0)) (is d) (are.first byte small)))
          | inr further ↦
              subst (IsNextWith keywords (get_or (get_or keywords k d) 0 0) (k + 1)) (sym (get_or-set_other nexts which k (get_or heads byte 0) 0 further))
              (are.next k d (omega (arith, low, further)) high)
        ]

    pub one_more_chained : AreLast keywords (set heads byte which) (set nexts which (get_or heads byte 0)) which
    one_more_chained = record {
      heads_long = length-set heads byte which ∙ are.heads_long;
      nexts_long = length-set nexts which (get_or heads byte 0) ∙ are.nexts_long;
      first = first_of;
      next = next_of;
    }
