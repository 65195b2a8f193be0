-- Worked examples of runs of hexadecimal digits.
use Rattle.std.specs.Prelude.{ℕ, ◌≡◌, refl, List, [], ◌∷◌, ◌++◌, replicate, codes, Some, None}
use Rattle.byte_kit.specs.Classes.{hex_class}
use Rattle.sbuf_nest.specs.Around.{look_at}
use Rattle.decode_hex.specs.Hex.{hex_extent, hex_value, hex_of}

-- ---- values

-- the test vector `foobar` of RFC 4648 section 10, in both cases
pub digits_of_either_case :
    (hex_value (codes "666F6F626172") ≡ codes "foobar") × (hex_value (codes "666f6f626172") ≡ codes "foobar")
unfolding hex_value
digits_of_either_case = (refl, refl)

pub all_digits :
    hex_value (codes "0123456789abcdefABCDEF")
    ≡ 1 ∷ 35 ∷ 69 ∷ 103 ∷ 137 ∷ 171 ∷ 205 ∷ 239 ∷ 171 ∷ 205 ∷ 239 ∷ []
unfolding hex_value
all_digits = refl

pub odd_last_digit_has_no_byte : hex_value (codes "667") ≡ codes "f"
unfolding hex_value
odd_last_digit_has_no_byte = refl

-- 88 digits are 44 bytes
abbrev digits_88 : List ℕ
digits_88 =
    codes "6148523063446f764c3256345957317762475575593239"
    ++ codes "744c32686c624778764c586476636d786b4c54453d"

pub digits_of_a_text :
    hex_of (look_at digits_88 0) ≡ Some (codes "aHR0cDovL2V4YW1wbGUuY29tL2hlbGxvLXdvcmxkLTE=")
unfolding hex_of hex_extent hex_value hex_class look_at
digits_of_a_text = refl

-- ---- where a run begins, and how far it goes

pub digits_31_are_none : hex_extent (look_at (replicate 31 48) 0) ≡ None
unfolding hex_extent hex_class look_at
digits_31_are_none = refl

pub digits_32_are_a_run : hex_extent (look_at (replicate 32 48 ++ codes "g") 0) ≡ Some 32
unfolding hex_extent hex_class look_at
digits_32_are_a_run = refl

pub last_of_33_digits_is_dropped : hex_extent (look_at (replicate 33 48) 0) ≡ Some 32
unfolding hex_extent hex_class look_at
last_of_33_digits_is_dropped = refl

pub no_run_begins_within_a_run : hex_extent (look_at (replicate 40 48) 1) ≡ None
unfolding hex_extent hex_class look_at
no_run_begins_within_a_run = refl

-- `x` is no digit
pub run_behind_another_letter : hex_extent (look_at (codes "0x" ++ replicate 40 48) 2) ≡ Some 40
unfolding hex_extent hex_class look_at
run_behind_another_letter = refl

pub line_break_ends_the_run :
    hex_extent (look_at (replicate 36 48 ++ codes "\n" ++ replicate 36 48) 0) ≡ Some 36
unfolding hex_extent hex_class look_at
line_break_ends_the_run = refl

pub run_of_the_most_digits : hex_extent (look_at (replicate 16384 48) 0) ≡ Some 16384
unfolding hex_extent hex_class look_at
run_of_the_most_digits = refl

pub digits_past_the_most_are_left : hex_extent (look_at (replicate 16387 48) 0) ≡ Some 16384
unfolding hex_extent hex_class look_at
digits_past_the_most_are_left = refl
