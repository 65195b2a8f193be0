-- Pairs in front of some bytes, and their values.
use Rattle.std.proofs.Common.{◌≡◌, ◌≢◌, ◌∙◌, ℕ, zero, suc, ◌+◌, ◌*◌, ◌/◌, ◌<◌, ◌≤◌, Bool, true, false, ◌&&◌, not, nat_eq, eqb, cond, List, [], ◌∷◌, length, take, drop, min, get_or, Option, Some, None, refl, sym, ap, arith, length-drop}
use Rattle.std.specs.Prelude.{option_map}
use Rattle.std.specs.Option.{option_map_or}
use Rattle.std.proofs.lemmas.Bool.{eqb-true, ne_eqb, false≢true}
use Rattle.std.proofs.lemmas.List.{get_or-drop, drop-drop}
use Rattle.byte_kit.specs.Classes.{printable_class}
use Rattle.sbuf_nest.specs.declared.mark.Extent.{Extent}
use Rattle.decode_views.specs.Utf16.{is_pair, pairs_in, utf16_extent, utf16_run, utf16_value, IsText}
use Rattle.decode_views.specs.declared.TheConstants.{PAIRS_MOST}

-- ---- pairs

pub and_false : (a b : Bool) → b ≡ false → (a && b) ≡ false
and_false true b is = is
and_false false b is = refl

-- a byte is another one than 0, as a test says it
pub other : (byte : ℕ) → not (nat_eq byte 0) ≡ true → byte ≢ 0
other byte some is = false≢true (sym (ap (λ b. not (nat_eq b 0)) is) ∙ some)

-- a byte other than 0 ends no pair
pub ends_none : (byte second : ℕ) → second ≢ 0 → is_pair byte second ≡ false
ends_none byte second other = and_false (printable_class byte) _ (ne_eqb second 0 other)

ends_in_zero : (test : Bool) (second : ℕ) → (test && (eqb second 0)) ≡ true → second ≡ 0
ends_in_zero true second is = eqb-true second 0 is
ends_in_zero false second is = absurd (cc is)

-- the second byte of a pair begins none
pub second_begins_none : (byte second third : ℕ) → is_pair byte second ≡ true → is_pair second third ≡ false
unfolding printable_class
second_begins_none byte second third is =
    let zero_byte : second ≡ 0 = ends_in_zero (printable_class byte) second is in
    rw zero_byte refl

-- ---- how many pairs stand in front

-- the first two bytes tell whether there is one more than behind them, or none
front_pair : (bytes : List ℕ) → 1 < length bytes → is_pair (get_or bytes 0 0) (get_or bytes 1 0) ≡ true
    → pairs_in bytes ≡ 1 + pairs_in (drop 2 bytes)
front_pair [] long is = absurd (omega (arith, long))
front_pair (byte ∷ []) long is = absurd (omega (arith, long))
front_pair (byte ∷ zero_byte ∷ bytes) long is = rw is refl

front_none : (bytes : List ℕ) → is_pair (get_or bytes 0 0) (get_or bytes 1 0) ≡ false → pairs_in bytes ≡ 0
front_none [] is = refl
front_none (byte ∷ []) is = refl
front_none (byte ∷ zero_byte ∷ bytes) is = rw is refl

-- each of the pairs in front is one
each_pair : (bytes : List ℕ) (pair : ℕ) → pair < pairs_in bytes → is_pair (get_or bytes (2 * pair) 0) (get_or bytes (2 * pair + 1) 0) ≡ true
each_pair [] pair within = absurd (omega (arith, within))
each_pair (byte ∷ []) pair within = absurd (omega (arith, within))
each_pair (byte ∷ zero_byte ∷ bytes) zero within =
    elim (is_pair byte zero_byte) as (λ b. 0 < cond b (1 + pairs_in bytes) 0 → b ≡ true) [ true ↦ λ _. refl | false ↦ λ none. absurd (omega (arith, none)) ] within
each_pair (byte ∷ zero_byte ∷ bytes) (suc pair) within =
    let e : 2 * suc pair ≡ suc (suc (2 * pair)) = omega arith in
    let f : 2 * suc pair + 1 ≡ suc (suc (2 * pair + 1)) = omega arith in
    let less : pair < pairs_in bytes =
    elim (is_pair byte zero_byte) as (λ b. suc pair < cond b (1 + pairs_in bytes) 0 → pair < pairs_in bytes) [ true ↦ λ more. omega (arith, more) | false ↦ λ none. absurd (omega (arith, none)) ] within in
    rw (f, e) (each_pair bytes pair less)

-- pairs are two bytes each
pub pairs_within : (bytes : List ℕ) → 2 * pairs_in bytes ≤ length bytes
pairs_within [] = omega arith
pairs_within (byte ∷ []) = omega arith
pairs_within (byte ∷ zero_byte ∷ bytes) =
    elim (is_pair byte zero_byte) as (λ b. 2 * cond b (1 + pairs_in bytes) 0 ≤ suc (suc (length bytes)))
    [ true ↦ omega (arith, pairs_within bytes) | false ↦ omega arith ]

-- fewer bytes have no more of them
pub pairs_in-take : (count : ℕ) (bytes : List ℕ) → pairs_in (take count bytes) ≤ pairs_in bytes
pairs_in-take zero bytes = omega arith
pairs_in-take (suc count) [] = omega arith
pairs_in-take (suc zero) (byte ∷ []) = omega arith
pairs_in-take (suc (suc count)) (byte ∷ []) = omega arith
pairs_in-take (suc zero) (byte ∷ zero_byte ∷ bytes) = omega arith
pairs_in-take (suc (suc count)) (byte ∷ zero_byte ∷ bytes) =
    elim (is_pair byte zero_byte) as (λ b. cond b (1 + pairs_in (take count bytes)) 0 ≤ cond b (1 + pairs_in bytes) 0)
    [ true ↦ omega (arith, pairs_in-take count bytes) | false ↦ omega arith ]

-- ---- pairs from a place on

module _ (bytes : List ℕ) (at : ℕ) where
  first_at : get_or (drop at bytes) 0 0 ≡ get_or bytes at 0
  first_at =
      let e : at + 0 ≡ at = omega arith in
      get_or-drop at bytes 0 0 ∙ ap (λ k. get_or bytes k 0) e

  second_at : get_or (drop at bytes) 1 0 ≡ get_or bytes (at + 1) 0
  second_at = get_or-drop at bytes 1 0

  pub one_at : at + 1 < length bytes → is_pair (get_or bytes at 0) (get_or bytes (at + 1) 0) ≡ true
      → pairs_in (drop at bytes) ≡ 1 + pairs_in (drop (at + 2) bytes)
  one_at within is =
      front_pair (drop at bytes) (omega (arith, within, length-drop at bytes)) (rw (first_at, second_at) is)
      ∙ ap (λ rest. 1 + pairs_in rest) (drop-drop 2 at bytes)

  pub none_at : is_pair (get_or bytes at 0) (get_or bytes (at + 1) 0) ≡ false → pairs_in (drop at bytes) ≡ 0
  none_at is = front_none (drop at bytes) (rw (first_at, second_at) is)

  -- a pair stands at each second place from the place on, as far as they go
  pub pair_at : (pair place behind : ℕ) → pair < pairs_in (drop at bytes) → place ≡ at + 2 * pair → behind ≡ place + 1
      → is_pair (get_or bytes place 0) (get_or bytes behind 0) ≡ true
  pair_at pair place behind within is next =
      let e : at + (2 * pair + 1) ≡ behind = omega (arith, is, next) in
      let first : get_or (drop at bytes) (2 * pair) 0 ≡ get_or bytes place 0 = get_or-drop at bytes (2 * pair) 0 ∙ ap (λ k. get_or bytes k 0) (sym is) in
      let second : get_or (drop at bytes) (2 * pair + 1) 0 ≡ get_or bytes behind 0 = get_or-drop at bytes (2 * pair + 1) 0 ∙ ap (λ k. get_or bytes k 0) e in
      sym (ap (λ byte. is_pair byte (get_or (drop at bytes) (2 * pair + 1) 0)) first ∙ ap (is_pair (get_or bytes place 0)) second) ∙ each_pair (drop at bytes) pair within

-- ---- what an extent says that was given for a place

abbrev run_of : ℕ → Extent
run_of count = record { bytes = count; units = count / 2 }

module _ (after : List ℕ) (extent : Extent) where
  given_bytes : (test : Bool) (count : ℕ) → option_map run_of (cond test (Some count) None) ≡ Some extent → extent.bytes ≡ count
  given_bytes true count is = sym (ap (λ (o : Option Extent). option_map_or (λ (e : Extent). e.bytes) o 0) is)
  given_bytes false count is = absurd (cc is)

  pub IsText-bytes : IsText after extent → extent.bytes ≡ 2 * min (pairs_in after) PAIRS_MOST
  unfolding utf16_run utf16_extent
  IsText-bytes given = given_bytes _ _ given.1

  pub IsText-within : IsText after extent → extent.bytes ≤ length after
  IsText-within given = omega (arith, IsText-bytes given, pairs_within after)

-- ---- the value

-- the first byte of each pair
pub value_filled : (text into : List ℕ) → length text ≡ 2 * length into → ((pair : ℕ) → pair < length into → get_or into pair 0 ≡ get_or text (2 * pair) 0)
    → into ≡ utf16_value text
unfolding utf16_value
value_filled [] [] room filled = refl
value_filled (byte ∷ []) [] room filled = absurd (omega (arith, room))
value_filled (byte ∷ zero_byte ∷ text) [] room filled = absurd (omega (arith, room))
value_filled [] (value ∷ into) room filled = absurd (omega (arith, room))
value_filled (byte ∷ []) (value ∷ into) room filled = absurd (omega (arith, room))
value_filled (byte ∷ zero_byte ∷ text) (value ∷ into) room filled =
    let first : value ≡ byte = filled 0 (omega arith) in
    let rest : (pair : ℕ) → pair < length into → get_or into pair 0 ≡ get_or text (2 * pair) 0 = λ pair within.
    let e : 2 * suc pair ≡ suc (suc (2 * pair)) = omega arith in
    filled (suc pair) (omega (arith, within)) ∙ ap (λ k. get_or (byte ∷ zero_byte ∷ text) k 0) e in
    ap (λ b. b ∷ into) first ∙ ap (λ bytes. byte ∷ bytes) (value_filled text into (omega (arith, room)) rest)
