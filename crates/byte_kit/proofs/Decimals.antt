-- What a decimal begins with, and what a numeral that begins so is the decimal of.
use Rattle.std.proofs.Common.{ℕ, zero, suc, ◌≡◌, ◌≢◌, ◌^◌, ◌<◌, List, [], ◌∷◌, length, get_or, Result, Ok, Err, IfSome, IfNone, refl, sym, subst, arith}
use Rattle.std.specs.Fmt.{decimal, digits}
use Rattle.std.specs.Result.{result_ok, OkIff}
use Rattle.std.specs.Str.Parse.{ParsesUnsigned, AllDigits, digits_value, IsNumeral}
use Rattle.std.proofs.lemmas.Fmt.{decimal_nonempty, first_decimal, decimal_is_IsNumeral, decimal-digits_value}
use Rattle.std.proofs.lemmas.Str.Parse.{IsNumeralModel, numerals_by_value, tells_digits, parse_plain}

-- the bytes are some, and begin with no sign, and with a zero only where they are no more than that
pub record IsPlain (bytes : List ℕ) : Type 0 where
  pub some : 0 < length bytes
  pub unsigned : get_or bytes 0 0 ≢ 43
  pub canonical : get_or bytes 0 0 ≡ 48 → length bytes ≡ 1

decimal_zero : decimal 0 ≡ 48 ∷ []
unfolding digits
decimal_zero = refl

zero_plain : IsPlain (48 ∷ [])
zero_plain = record { some = omega arith; unsigned = λ e. absurd (omega (arith, e)); canonical = λ _. refl }

-- a decimal is plain
pub decimal_plain : (n : ℕ) → n < 2 ^ 64 → IsPlain (decimal n)
decimal_plain zero small = subst IsPlain (sym decimal_zero) zero_plain
decimal_plain (suc n) small =
    let first : 48 < get_or (decimal (suc n)) 0 0 = first_decimal (suc n) (omega arith) small in
    record {
      some = decimal_nonempty (suc n) small;
      unsigned = λ e. absurd (omega (arith, first, e));
      canonical = λ e. absurd (omega (arith, first, e));
    }

own : IsNumeralModel (AllDigits 10) (digits_value 10)
own = numerals_by_value (AllDigits 10) tells_digits

abbrev Reads : {E : Type 0} → List ℕ → Result ℕ E → Type 0
Reads bytes r = OkIff r (AllDigits 10 bytes × (0 < length bytes) × (digits_value 10 bytes < 2 ^ 64)) (digits_value 10 bytes)

-- what is read of plain bytes is the number whose decimal they are
value_of_read : {E : Type 0} (bytes : List ℕ) (r : Result ℕ E) → IsPlain bytes → Reads bytes r → IfSome (result_ok r) (λ n. decimal n ≡ bytes)
value_of_read bytes (Ok n) plain read =
    subst (λ (m : ℕ). decimal m ≡ bytes) (sym read.1)
    (decimal-digits_value own bytes read.0.0 read.0.1 plain.canonical read.0.2)
value_of_read bytes (Err e) plain read = tt

-- and nothing is read where they are no decimal
none_of_read : {E : Type 0} (bytes : List ℕ) (r : Result ℕ E) → Reads bytes r → IfNone (result_ok r) ((n : ℕ) → n < 2 ^ 64 → decimal n ≢ bytes)
none_of_read bytes (Ok n) read = tt
none_of_read bytes (Err e) read = λ n small is.
    let numeral : IsNumeral 10 bytes × (digits_value 10 bytes ≡ n) =
    subst (λ (ds : List ℕ). IsNumeral 10 ds × (digits_value 10 ds ≡ n)) is (decimal_is_IsNumeral n small) in
    read (numeral.0.1, numeral.0.0, omega (arith, numeral.1, small))

pub plain_value : {E : Type 0} (text bytes : List ℕ) (r : Result ℕ E) → text ≡ bytes → IsPlain bytes
    → ParsesUnsigned 64 10 text r → IfSome (result_ok r) (λ n. decimal n ≡ bytes)
plain_value {E} text bytes r is plain parsed =
    let read = subst (λ (t : List ℕ). ParsesUnsigned 64 10 t r) is parsed in
    value_of_read bytes r plain (parse_plain own 64 bytes r read plain.unsigned)

pub plain_none : {E : Type 0} (text bytes : List ℕ) (r : Result ℕ E) → text ≡ bytes → IsPlain bytes
    → ParsesUnsigned 64 10 text r → IfNone (result_ok r) ((n : ℕ) → n < 2 ^ 64 → decimal n ≢ bytes)
plain_none {E} text bytes r is plain parsed =
    let read = subst (λ (t : List ℕ). ParsesUnsigned 64 10 t r) is parsed in
    none_of_read bytes r (parse_plain own 64 bytes r read plain.unsigned)

-- bytes that are not plain are no decimal
pub no_decimal : (bytes : List ℕ) → (IsPlain bytes → ⊥) → (n : ℕ) → n < 2 ^ 64 → decimal n ≢ bytes
no_decimal bytes not_plain n small is = not_plain (subst IsPlain is (decimal_plain n small))
