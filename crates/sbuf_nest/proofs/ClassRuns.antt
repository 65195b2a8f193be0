-- Where no run of bytes of a class begins: inside one, and where too few stand in a row.
use Rattle.std.proofs.Common.{◌≡◌, ◌∙◌, ℕ, zero, suc, ◌+◌, ◌-◌, ◌<◌, ◌≤◌, Bool, true, false, ◌&&◌, cond, List, [], ◌∷◌, length, take, drop, min, get_or, Some, refl, sym, ap, inl, inr, arith, length-drop}
use Rattle.std.specs.List.{prefix_len}
use Rattle.std.specs.Prelude.{nat_le, slice_index, slice_get}
use Rattle.std.proofs.lemmas.Bool.{cases_lt, false≢true}
use Rattle.std.proofs.lemmas.Bool.Decides.{nat_tests}
use Rattle.std.proofs.lemmas.List.{get_or-drop, get_or-take, length-take}
use Rattle.std.proofs.lemmas.List.Sums.{prefix_len_passes}
use Rattle.std.proofs.lemmas.Option.{slice_get-get_or}
use Rattle.sbuf_nest.specs.Around.{look_at}
use Rattle.sbuf_nest.specs.Edges.{begins_run}
use Rattle.sbuf_nest.specs.Runs.{begins_row, NoRowFrom}
use Rattle.sbuf_nest.specs.declared.look.TheConstants.{LOOK_BEFORE, LOOK_AFTER}

-- a run in the bytes as far as they are taken
pub prefix_len-take : (p : ℕ → Bool) (k : ℕ) (xs : List ℕ) → prefix_len p (take k xs) ≡ min k (prefix_len p xs)
prefix_len-take p zero xs = omega arith
prefix_len-take p (suc k) [] = omega arith
prefix_len-take p (suc k) (x ∷ xs) =
    elim (p x) as (λ b. cond b (1 + prefix_len p (take k xs)) 0 ≡ min (suc k) (cond b (1 + prefix_len p xs) 0))
    [ true ↦ omega (arith, prefix_len-take p k xs) | false ↦ omega arith ]

-- the byte right ahead of a place, as its Look shows it
byte_before : (bytes : List ℕ) (place reach : ℕ) → 0 < place → place ≤ length bytes → 0 < reach →
    let before = drop (place - reach) (take place bytes) in slice_get before (length before - 1) ≡ Some (get_or bytes (place - 1) 0)
byte_before bytes place reach some within far =
    let before = drop (place - reach) (take place bytes) in
    let long = length-drop (place - reach) (take place bytes) in
    let taken = length-take place bytes in
    let last : place - reach + (length before - 1) ≡ place - 1 = omega (arith, long, taken) in
    slice_get-get_or before (length before - 1) 0 (omega (arith, long, taken))
    ∙ ap (λ byte. Some byte)
    (get_or-drop (place - reach) (take place bytes) (length before - 1) 0 ∙ ap (λ k. get_or (take place bytes) k 0) last ∙ get_or-take place bytes (place - 1) 0 (omega arith))

and_false : (a b : Bool) → b ≡ false → (a && b) ≡ false
and_false true b is = is
and_false false b is = refl

module _ (class : ℕ → Bool) (bytes : List ℕ) where
  -- a byte of the class stands right ahead of the place
  pub inside : (place : ℕ) → 0 < place → place ≤ length bytes → class (slice_index bytes (place - 1)) ≡ true
      → begins_run class (look_at bytes place) ≡ false
  unfolding look_at
  inside place some within passes = rw (byte_before bytes place LOOK_BEFORE some within (omega arith)) (rw passes refl)

  pub none_inside : (least next end : ℕ) → 0 < next → end ≤ length bytes
      → ((k : ℕ) → next ≤ k → k < end → class (slice_index bytes (k - 1)) ≡ true) → NoRowFrom class least bytes next end
  unfolding begins_row
  none_inside least next end some within are place low high =
      rw (inside place (omega arith) (omega arith) (are place low high)) refl

  -- too few stand in a row
  pub few_in_row : (least place : ℕ) → least ≤ LOOK_AFTER → prefix_len class (drop place bytes) < least → begins_row class least (look_at bytes place) ≡ false
  unfolding begins_row look_at
  few_in_row least place seen few =
      let none : nat_le least (prefix_len class (take LOOK_AFTER (drop place bytes))) ≡ false =
      rw (prefix_len-take class LOOK_AFTER (drop place bytes)) (grind (arith, nat_tests)) in
      and_false (begins_run class (look_at bytes place)) _ none

  -- a byte of another class stands among so many from the place on
  pub none_to_stranger : (least at stranger place : ℕ) → least ≤ LOOK_AFTER → stranger < at + least → class (slice_index bytes stranger) ≡ false
      → at ≤ place → place ≤ stranger → begins_row class least (look_at bytes place) ≡ false
  none_to_stranger least at stranger place seen near other low high =
      few_in_row least place seen (
      elim (cases_lt (stranger - place) (prefix_len class (drop place bytes))) [
        | inl behind ↦ absurd (
            let e : place + (stranger - place) ≡ stranger = omega arith in
            let passes = prefix_len_passes class (drop place bytes) (stranger - place) 0 behind in
            false≢true (sym other ∙ ap (λ k. class (get_or bytes k 0)) (sym e) ∙ ap class (sym (get_or-drop place bytes (stranger - place) 0)) ∙ passes))
        | inr few ↦ omega (arith, few)
      ]
      )
