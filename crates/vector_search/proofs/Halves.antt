-- A vector looked up in a table of sixteen entries by the high or the low halves of its bytes.
use Rattle.std.proofs.Common.{◌≡◌, ◌∙◌, ℕ, ◌+◌, ◌*◌, ◌/◌, ◌%◌, ◌^◌, ◌<◌, List, map, length, get_or, replicate, bit_and, refl, sym, ap, arith, w8, Fits}
use Rattle.std.proofs.lemmas.List.{get_or-map, length-map, ext_get_or}
use Rattle.std.proofs.lemmas.Nat.{and_mask}
use Rattle.std.proofs.lemmas.Simd.{Each1-get_or, Each1-weaker, Each1-zip2, Each2-splat, below_from_Fits, length-zip2, zip2_splat, swz_l, SwzOk, SwzOk-from_below, length-swz_l, get_or-swz_l_below}
use lib.Lanes.{zip2, Each1}

-- sixteen bytes
abbrev pub AreBytes : List ℕ → Type 0
AreBytes v = (length v ≡ 16) × Each1 (Fits w8) v

-- the high half, as a shift by four bits
abbrev pub shifted : ℕ → ℕ → ℕ
shifted a b = a / 2 ^ b

-- one half of a byte, which an operation with a number gives
module _ (cut : ℕ → ℕ → ℕ) (by : ℕ) (half : ℕ → ℕ) (is_half : (a : ℕ) → cut a by ≡ half a) (few : (a : ℕ) → a < 256 → half a < 16)
    (table v : List ℕ) (are : AreBytes v) where
  halves : List ℕ
  halves = zip2 cut v (replicate 16 by)

  long : length halves ≡ 16
  unfolding halves
  long = length-zip2 cut v (replicate 16 by) are.0 ∙ are.0

  small : Each1 (λ part. part < 16) halves
  unfolding halves
  small =
      Each1-zip2 cut (λ part. part < 16) v (replicate 16 by)
      (Each2-splat (λ a b. cut a b < 16) v 16 by (Each1-weaker (λ a. a < 256) (λ a. cut a by < 16) (λ a h. omega (arith, few a h, is_half a)) v (below_from_Fits w8 v are.1)))

  -- each is a place of the table
  pub halves_fit : SwzOk w8 16 16 0 (zip2 cut v (replicate 16 by))
  unfolding halves
  halves_fit = SwzOk-from_below w8 16 1 16 0 halves refl (omega (arith, long)) small

  -- the look-up gives each byte's entry
  pub looked_up : swz_l w8 16 table 0 (zip2 cut v (replicate 16 by)) ≡ map (λ byte. get_or table (half byte) 0) v
  unfolding halves
  looked_up =
      ext_get_or 0 _ _ (length-swz_l w8 16 table 0 halves ∙ long ∙ sym (length-map v (λ byte. get_or table (half byte) 0) ∙ are.0)) (λ i h.
      let within : i < 16 = omega (arith, h, length-swz_l w8 16 table 0 halves, long) in
      let in_v : i < length v = omega (arith, are.0) in
      let is : get_or halves i 0 ≡ half (get_or v i 0) =
      ap (λ l. get_or l i 0) (zip2_splat cut v 16 by are.0) ∙ get_or-map (λ a. cut a by) v i 0 0 in_v ∙ is_half (get_or v i 0) in
      let below : get_or halves i 0 < 16 = Each1-get_or (λ part. part < 16) halves i 0 (omega (arith, long)) small in
      let block : 16 * ((0 + i) / 16) + get_or halves i 0 ≡ half (get_or v i 0) = omega (arith, is, within) in
      get_or-swz_l_below w8 16 table 0 halves i (omega (arith, long)) below
      ∙ ap (λ k. get_or table k 0) block
      ∙ sym (get_or-map (λ byte. get_or table (half byte) 0) v i 0 0 in_v))

pub high : (a : ℕ) → shifted a 4 ≡ a / 16
high a = refl

pub high_few : (a : ℕ) → a < 256 → a / 16 < 16
high_few a small = omega arith

pub low : (a : ℕ) → bit_and a 15 ≡ a % 16
low a = and_mask a 4

pub low_few : (a : ℕ) → a < 256 → a % 16 < 16
low_few a small = omega arith
