-- Runs of a class of bytes by their strangers, the bytes of another class.
use Rattle.std.proofs.Common.{◌≡◌, ◌∙◌, ℕ, ◌+◌, ◌-◌, ◌<◌, ◌≤◌, Bool, true, false, not, List, length, drop, get_or, sym, ap, inl, inr, arith, length-drop}
use Rattle.std.specs.List.{prefix_len}
use Rattle.std.specs.Prelude.{slice_index}
use Rattle.std.proofs.lemmas.Bool.{cases_lt, not-true, not-false}
use Rattle.std.proofs.lemmas.List.{get_or-drop}
use Rattle.std.proofs.lemmas.List.Sums.{prefix_len_is, prefix_len_passes, prefix_len-le-length}
use Rattle.vector_search.specs.Places.{NoneIn, IsNext}
use Rattle.vector_search.specs.Rows.{IsRow, NoRowIn}
use Rattle.vector_search.specs.declared.rows.TheConstants.{ROW}
use Rattle.sbuf_nest.specs.Runs.{NoRowFrom}
use Rattle.sbuf_nest.proofs.ClassRuns.{few_in_row, none_inside}

abbrev pub stranger_at : (ℕ → Bool) → List ℕ → ℕ → Bool
stranger_at class bytes place = not (class (slice_index bytes place))

not_of : (b : Bool) → b ≡ true → not b ≡ false
not_of b is = ap not is

module _ (class : ℕ → Bool) (bytes : List ℕ) where
  -- the run in front goes on to the first stranger
  pub run_to_stranger : (n : ℕ) → IsNext (stranger_at class bytes) 0 (length bytes) n → n ≡ prefix_len class bytes
  run_to_stranger n next =
      sym (prefix_len_is class bytes n 0 next.high
      (λ k low. not-false (class (get_or bytes k 0)) (next.before k (omega arith) low))
      (λ within. not-true (class (get_or bytes n 0)) (next.passes within)))

  -- from a byte of the class on no run begins up to the next stranger
  pub none_to_next : (least next end : ℕ) → 0 < next → end ≤ length bytes → class (slice_index bytes (next - 1)) ≡ true
      → NoneIn (stranger_at class bytes) next end → NoRowFrom class least bytes next end
  none_to_next least next end some within first none =
      none_inside class bytes least next end some within
      (λ k low high. elim (cases_lt next k) [
        | inl behind ↦ not-false (class (slice_index bytes (k - 1))) (none (k - 1) (omega (arith, behind)) (omega (arith, behind, high)))
        | inr same ↦ (let e : next ≡ k = omega (arith, same, low) in ap (λ i. class (slice_index bytes (i - 1))) (sym e) ∙ first)
      ])

  -- so many of the class in a row are a row without a stranger
  row_of_run : (place : ℕ) → ROW ≤ prefix_len class (drop place bytes) → IsRow (stranger_at class bytes) (length bytes) place
  row_of_run place enough = (
    omega (arith, enough, prefix_len-le-length class (drop place bytes), length-drop place bytes),
    λ k low high.
        let e : place + (k - place) ≡ k = omega (arith, low) in
        not_of (class (slice_index bytes k))
        (ap (λ i. class (get_or bytes i 0)) (sym e) ∙ ap class (sym (get_or-drop place bytes (k - place) 0))
        ∙ prefix_len_passes class (drop place bytes) (k - place) 0 (omega (arith, enough, low, high))),
  )

  -- where no row stands no run of as many begins
  pub none_without_row : (first end : ℕ) → NoRowIn (stranger_at class bytes) (length bytes) first end → NoRowFrom class ROW bytes first end
  none_without_row first end none place low high =
      few_in_row class bytes ROW place (omega arith)
      (elim (cases_lt (prefix_len class (drop place bytes)) ROW) [
        | inl few ↦ few
        | inr enough ↦ absurd (none place low high (row_of_run place enough))
      ])

  -- one range behind the other
  pub none_joined : (least first middle end : ℕ) → NoRowFrom class least bytes first middle → NoRowFrom class least bytes middle end
      → NoRowFrom class least bytes first end
  none_joined least first middle end one two place low high = elim (cases_lt place middle) [
    | inl ahead ↦ one place low ahead
    | inr behind ↦ two place behind high
  ]
