-- Where a mask of strangers shows that no row stands.
use Rattle.std.proofs.Common.{◌≡◌, ◌≢◌, ◌∙◌, ℕ, ◌+◌, ◌<◌, ◌≤◌, Bool, true, ◌&&◌, not, refl, sym, ap, inl, inr, arith, IsTrue, nat_eq}
use Rattle.std.proofs.lemmas.Bool.{cases_lt, false≢true, and_parts}
use lib.Count.{count_trailing_zeros}
use Rattle.vector_search.specs.Places.{mask_of}
use Rattle.vector_search.specs.Rows.{IsRow, NoRowIn}
use Rattle.vector_search.specs.declared.rows.TheConstants.{ROW}
use Rattle.vector_search.proofs.Masks.{none_marked, first_marked, none_further}

pub other : (marks : ℕ) → not (nat_eq marks 0) ≡ true → marks ≢ 0
other marks some is = false≢true (sym (ap (λ m. not (nat_eq m 0)) is) ∙ some)

module _ (stranger : ℕ → Bool) (end : ℕ) where
  -- a stranger bars the rows that it would stand in
  pub barred : (first last place : ℕ) → stranger place ≡ true → last ≤ place + 1 → place < first + ROW → NoRowIn stranger end first last
  barred first last place is near far row low high stands =
      false≢true (sym (stands.1 place (omega arith) (omega arith)) ∙ is)

  pub no_row_further : (first middle last : ℕ) → NoRowIn stranger end first middle → NoRowIn stranger end middle last → NoRowIn stranger end first last
  no_row_further first middle last ahead behind place low high =
      elim (cases_lt place middle) [ inl below ↦ ahead place low below | inr above ↦ behind place above high ]

  -- strangers at the last places of the two halves of a step bar all of its rows
  pub halves_bar : (at : ℕ) → stranger (at + 31) ≡ true → stranger (at + 63) ≡ true → NoRowIn stranger end at (at + 64)
  halves_bar at first second =
      no_row_further at (at + 32) (at + 64)
      (barred at (at + 32) (at + 31) first (omega arith) (omega arith))
      (barred (at + 32) (at + 64) (at + 63) second (omega arith) (omega arith))

  -- a mask that begins so far behind a place shows a stranger: it bars the rows up to the first stranger
  pub mask_bars : (first at marks : ℕ) → first ≤ at → at ≤ first + 16 → marks ≡ mask_of stranger at 16 → marks ≢ 0 →
      NoRowIn stranger end first (at + count_trailing_zeros 64 marks + 1)
  mask_bars first at marks low near is some =
      let found = first_marked stranger at 16 (omega arith) (omega (arith, is, some)) in
      let e : at + count_trailing_zeros 64 marks ≡ at + count_trailing_zeros 64 (mask_of stranger at 16) = rw is refl in
      barred first (at + count_trailing_zeros 64 marks + 1) (at + count_trailing_zeros 64 marks) (rw e found.1) (omega arith) (omega (arith, e, found.0))

  -- fewer places, or more
  pub fewer : (first last more : ℕ) → last ≤ more → NoRowIn stranger end first more → NoRowIn stranger end first last
  fewer first last more few none place low high = none place low (omega arith)

  -- the mask of a block shows a stranger: no row stands at the place ahead of it or at the fifteen ahead of that one
  pub block_bars : (first marks : ℕ) → marks ≡ mask_of stranger (first + 15) 16 → marks ≢ 0 → NoRowIn stranger end first (first + 16)
  block_bars first marks is some =
      fewer first (first + 16) (first + 15 + count_trailing_zeros 64 marks + 1) (omega arith) (mask_bars first (first + 15) marks (omega arith) (omega arith) is some)

  -- the bytes end ahead of a row
  pub none_to_end : (first last : ℕ) → end < first + ROW → NoRowIn stranger end first last
  none_to_end first last short place low high stands = absurd (omega (arith, stands.0))

  -- two masks without a bit
  pub stands_there : (first early late : ℕ) → first + ROW ≤ end → early ≡ mask_of stranger first 16 → late ≡ mask_of stranger (first + 16) 16 →
      early ≡ 0 → late ≡ 0 → IsRow stranger end first
  stands_there first early late within is_early is_late no_early no_late = (
    within,
    none_further stranger first (first + 16) (first + ROW) (none_marked stranger first 16 (sym is_early ∙ no_early))
        (λ place low high. none_marked stranger (first + 16) 16 (sym is_late ∙ no_late) place low (omega arith)),
  )

  -- one of the blocks of a step
  step_part : (first at marks : ℕ) → at ≡ first + 15 → marks ≡ mask_of stranger at 16 → not (nat_eq marks 0) ≡ true →
      NoRowIn stranger end first (first + 16)
  step_part first at marks is_at is some = block_bars first marks (is ∙ ap (λ k. mask_of stranger k 16) is_at) (other marks some)

  four_bar : (first : ℕ) → NoRowIn stranger end first (first + 16) → NoRowIn stranger end (first + 16) (first + 16 + 16)
      → NoRowIn stranger end (first + 32) (first + 32 + 16) → NoRowIn stranger end (first + 48) (first + 48 + 16) → NoRowIn stranger end first (first + 64)
  four_bar first one two three four =
      no_row_further first (first + 16) (first + 64) one
      (no_row_further (first + 16) (first + 32) (first + 64) (fewer (first + 16) (first + 32) (first + 16 + 16) (omega arith) two)
      (no_row_further (first + 32) (first + 48) (first + 64) (fewer (first + 32) (first + 48) (first + 32 + 16) (omega arith) three)
      (fewer (first + 48) (first + 64) (first + 48 + 16) (omega arith) four)))

  -- a step of the search: four masks that each show a stranger
  pub step_bars : (first a b c d : ℕ) → a ≡ mask_of stranger (first + 15) 16 → b ≡ mask_of stranger (first + 15 + 16) 16
      → c ≡ mask_of stranger (first + 15 + 32) 16 → d ≡ mask_of stranger (first + 15 + 48) 16
      → IsTrue (not (nat_eq a 0) && not (nat_eq b 0) && not (nat_eq c 0) && not (nat_eq d 0)) → NoRowIn stranger end first (first + 64)
  step_bars first a b c d is_a is_b is_c is_d all =
      let e : first + 15 + 16 ≡ first + 16 + 15 = omega arith in
      let f : first + 15 + 32 ≡ first + 32 + 15 = omega arith in
      let g : first + 15 + 48 ≡ first + 48 + 15 = omega arith in
      let three = and_parts (not (nat_eq a 0) && not (nat_eq b 0) && not (nat_eq c 0)) (not (nat_eq d 0)) all in
      let two = and_parts (not (nat_eq a 0) && not (nat_eq b 0)) (not (nat_eq c 0)) three.0 in
      let one = and_parts (not (nat_eq a 0)) (not (nat_eq b 0)) two.0 in
      four_bar first (step_part first _ a refl is_a one.0) (step_part (first + 16) _ b e is_b one.1)
      (step_part (first + 32) _ c f is_c two.1) (step_part (first + 48) _ d g is_d three.1)

-- the first stranger of a mask stands in it
pub few_zeros : (stranger : ℕ → Bool) (at marks : ℕ) → marks ≡ mask_of stranger at 16 → marks ≢ 0 → count_trailing_zeros 64 marks < 16
few_zeros stranger at marks is some =
    let found = first_marked stranger at 16 (omega arith) (omega (arith, is, some)) in omega (arith, ap (count_trailing_zeros 64) is, found.0)
