-- A word that is a decimal is the number's, and the only one.
use Rattle.std.proofs.Common.{ℕ, zero, suc, ◌≡◌, ◌≢◌, ◌^◌, ◌<◌, ◌&&◌, ◌||◌, ◌==◌, not, nat_lt, Bool, true, false, cond, List, length, get_or, Some, None, refl, subst, arith, rules}
use Rattle.std.specs.Fmt.{decimal, digits}
use Rattle.std.specs.Str.{all_ascii_digits}
use Rattle.std.specs.Str.Parse.{digits_value}
use Rattle.std.proofs.lemmas.Bool.Decides.{nat_tests}
use Rattle.std.proofs.lemmas.Fmt.{decimal_nonempty, first_decimal, digits_decimal, digits_value-decimal, decimal-digits_value}
use Rattle.std.proofs.lemmas.Str.Parse.{IsNumeralModel, numerals_by_value}
use Rattle.scan_settings.specs.Values.{is_decimal, number_of}

own : IsNumeralModel (λ ds. all_ascii_digits ds ≡ true) (digits_value 10)
own = numerals_by_value _ (search rules)

zero_is : is_decimal (decimal 0) ≡ true
unfolding is_decimal digits
zero_is = refl

-- what stands in the definition, of plain values
plain : (count first : ℕ) (ascii : Bool) → 0 < count → 48 < first → ascii ≡ true → nat_lt 0 count && ascii && ((count == 1) || not (first == 48)) ≡ true
plain count first ascii some above all = grind (arith, nat_tests)

decimal_is : (n : ℕ) → n < 2 ^ 64 → is_decimal (decimal n) ≡ true
unfolding is_decimal
decimal_is zero small = zero_is
decimal_is (suc n) small =
    plain (length (decimal (suc n))) (get_or (decimal (suc n)) 0 0) (all_ascii_digits (decimal (suc n)))
    (decimal_nonempty (suc n) small) (first_decimal (suc n) (omega arith) small) (digits_decimal own (suc n) small)

-- a word that is the decimal of a number is the number
pub number_some : (word : List ℕ) (n : ℕ) → n < 2 ^ 64 → decimal n ≡ word → Some n ≡ number_of word
unfolding number_of
number_some word n small is =
    let decimal = subst (λ (w : List ℕ). is_decimal w ≡ true) is (decimal_is n small) in
    let value = subst (λ (w : List ℕ). digits_value 10 w ≡ n) is (digits_value-decimal own n small) in
    let below : nat_lt n (2 ^ 64) ≡ true = grind (arith, nat_tests) in
    rw (decimal, value, below) refl

-- and back
some_of : (count first : ℕ) (ascii : Bool) → nat_lt 0 count && ascii && ((count == 1) || not (first == 48)) ≡ true → 0 < count
some_of count first ascii is = grind (arith, nat_tests, is)

ascii_of : (count first : ℕ) (ascii : Bool) → nat_lt 0 count && ascii && ((count == 1) || not (first == 48)) ≡ true → ascii ≡ true
ascii_of count first ascii is = grind (arith, nat_tests, is)

one_of : (count first : ℕ) (ascii : Bool) → nat_lt 0 count && ascii && ((count == 1) || not (first == 48)) ≡ true → first ≡ 48 → count ≡ 1
one_of count first ascii is zero_first = grind (arith, nat_tests, is)

-- a decimal that is no number below 2^64 is a greater one
greater : (word : List ℕ) → ((n : ℕ) → n < 2 ^ 64 → decimal n ≢ word) → is_decimal word ≡ true → digits_value 10 word < 2 ^ 64 → ⊥
unfolding is_decimal
greater word none is small =
    let count = length word in
    let first = get_or word 0 0 in
    none (digits_value 10 word) small
    (decimal-digits_value own word (ascii_of count first (all_ascii_digits word) is) (some_of count first (all_ascii_digits word) is)
    (one_of count first (all_ascii_digits word) is) small)

too_great : (is : Bool) (n : ℕ) → (is ≡ true → n < 2 ^ 64 → ⊥) → None ≡ cond (is && nat_lt n (2 ^ 64)) (Some n) None
too_great false n none = refl
too_great true n none =
    let over : nat_lt n (2 ^ 64) ≡ false = grind (arith, nat_tests, none refl) in
    rw over refl

-- a word that is no decimal is no number
pub number_none : (word : List ℕ) → ((n : ℕ) → n < 2 ^ 64 → decimal n ≢ word) → None ≡ number_of word
unfolding number_of
number_none word none = too_great (is_decimal word) (digits_value 10 word) (greater word none)
