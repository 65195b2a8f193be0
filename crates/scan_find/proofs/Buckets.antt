-- Bits of a table that is filled, and those of bytes that are looked up in it.
use Rattle.std.proofs.Common.{◌≡◌, ◌≢◌, ◌∙◌, ℕ, ◌*◌, ◌%◌, ◌^◌, ◌<◌, List, length, get_or, set, replicate, bit_and, bit_or, sym, ap, subst, inl, inr, arith, w8}
use Rattle.std.specs.Int.{bit_at}
use Rattle.std.proofs.lemmas.Bool.{cases_eq, cases_lt}
use Rattle.std.proofs.lemmas.List.{get_or-set_same, get_or-set_other, get_or_past, set_past, get_or-map}
use Rattle.std.proofs.lemmas.Nat.Bits.{bit_at_and, bit_at_or, bit_at-lt, bit_at-zero, bit_at_set_same}
use Rattle.std.proofs.lemmas.Simd.{zip2_splat}
use lib.Lanes.{zip2}

-- the bit is set in the entry
abbrev pub HasBit : List ℕ → ℕ → ℕ → Type 0
HasBit table k bit = bit_at (get_or table k 0) bit ≡ 1

or_bit : (a b bit : ℕ) → bit_at a bit ≡ 1 → bit_at (bit_or a b) bit ≡ 1
or_bit a b bit is = omega (arith, bit_at_or a b bit, bit_at-lt b bit)

-- one bit more in one entry
pub kept_in_one : (table : List ℕ) (k more j bit : ℕ) → HasBit table j bit → HasBit (set table k (bit_or (get_or table k 0) more)) j bit
kept_in_one table k more j bit is =
    elim (cases_eq j k) [
      | inl same ↦ elim (cases_lt k (length table)) [
        | inl within ↦
            subst (λ i. bit_at (get_or (set table k (bit_or (get_or table k 0) more)) i 0) bit ≡ 1) (sym same)
            (subst (λ entry. bit_at entry bit ≡ 1) (sym (get_or-set_same table k (bit_or (get_or table k 0) more) 0 within))
            (or_bit (get_or table k 0) more bit (subst (λ i. bit_at (get_or table i 0) bit ≡ 1) same is)))
        | inr past ↦ subst (λ some. HasBit some j bit) (sym (set_past table k (bit_or (get_or table k 0) more) past)) is
      ]
      | inr other ↦ subst (λ entry. bit_at entry bit ≡ 1) (sym (get_or-set_other table k j (bit_or (get_or table k 0) more) 0 other)) is
    ]

pub added_to_one : (table : List ℕ) (k bit : ℕ) → k < length table → bit < 8 →
    HasBit (set table k (bit_or (get_or table k 0) (1 * 2 ^ bit % 2 ^ 8))) k bit
added_to_one table k bit within few =
    subst (λ entry. bit_at entry bit ≡ 1) (sym (get_or-set_same table k _ 0 within)) (bit_at_set_same w8 (get_or table k 0) bit few)

-- one bit more in each entry
module _ (table : List ℕ) (long : length table ≡ 16) (more : ℕ) where
  each : (j : ℕ) → j < 16 → get_or (zip2 bit_or table (replicate 16 more)) j 0 ≡ bit_or (get_or table j 0) more
  each j within =
      ap (λ some. get_or some j 0) (zip2_splat bit_or table 16 more long) ∙ get_or-map (λ entry. bit_or entry more) table j 0 0 (omega (arith, long))

  pub kept_in_each : (j bit : ℕ) → HasBit table j bit → HasBit (zip2 bit_or table (replicate 16 more)) j bit
  kept_in_each j bit is =
      elim (cases_lt j 16) [
        | inl within ↦ subst (λ entry. bit_at entry bit ≡ 1) (sym (each j within)) (or_bit (get_or table j 0) more bit is)
        | inr past ↦
            let none : bit_at 0 bit ≡ 1 = subst (λ entry. bit_at entry bit ≡ 1) (get_or_past table j 0 (omega (arith, long))) is in
            absurd (omega (arith, none, bit_at-zero bit))
      ]

pub added_to_each : (table : List ℕ) → length table ≡ 16 → (j bit : ℕ) → j < 16 → bit < 8 →
    HasBit (zip2 bit_or table (replicate 16 (1 * 2 ^ bit % 2 ^ 8))) j bit
added_to_each table long j bit within few =
    subst (λ entry. bit_at entry bit ≡ 1) (sym (each table long (1 * 2 ^ bit % 2 ^ 8) j within)) (bit_at_set_same w8 (get_or table j 0) bit few)

-- a bit of both
pub and_bit : (a b bit : ℕ) → bit_at a bit ≡ 1 → bit_at b bit ≡ 1 → bit_at (bit_and a b) bit ≡ 1
and_bit a b bit is_a is_b = omega (arith, bit_at_and a b bit)

-- a number with a bit isn't 0
pub some_bit : (a bit : ℕ) → bit_at a bit ≡ 1 → a ≢ 0
some_bit a bit is zero =
    let none : bit_at 0 bit ≡ 1 = subst (λ n. bit_at n bit ≡ 1) zero is in
    absurd (omega (arith, none, bit_at-zero bit))
