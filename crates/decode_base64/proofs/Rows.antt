-- Worked examples of Base64 texts.
use Rattle.std.specs.Prelude.{ℕ, ◌≡◌, refl, List, [], ◌∷◌, ◌++◌, replicate, codes, Some, None}
use Rattle.byte_kit.specs.Classes.{base64_class}
use Rattle.sbuf_nest.specs.Around.{look_at}
use Rattle.decode_base64.specs.Base64.{lines_extent, text_extent, base64_extent, base64_value, base64_of}

-- 31 and 32 letters of `http://example.com/hello-world-1`, and all 43
abbrev letters_31 : List ℕ
letters_31 = codes "aHR0cDovL2V4YW1wbGUuY29tL2hlbGx"

abbrev letters_32 : List ℕ
letters_32 = codes "aHR0cDovL2V4YW1wbGUuY29tL2hlbGxv"

abbrev letters_43 : List ℕ
letters_43 = codes "aHR0cDovL2V4YW1wbGUuY29tL2hlbGxvLXdvcmxkLTE"

-- ---- values

-- the test vectors of RFC 4648 section 10, without their padding
pub vectors_of_the_standard :
    (base64_value [] ≡ [])
    × (base64_value (codes "Zg") ≡ codes "f")
    × (base64_value (codes "Zm8") ≡ codes "fo")
    × (base64_value (codes "Zm9v") ≡ codes "foo")
    × (base64_value (codes "Zm9vYg") ≡ codes "foob")
    × (base64_value (codes "Zm9vYmE") ≡ codes "fooba")
    × (base64_value (codes "Zm9vYmFy") ≡ codes "foobar")
unfolding base64_value base64_class
vectors_of_the_standard = (refl, refl, refl, refl, refl, refl, refl)

-- `+` is 62 and `/` is 63
pub last_letters_of_the_alphabet : base64_value (codes "+/+/") ≡ 251 ∷ 255 ∷ 191 ∷ []
unfolding base64_value base64_class
last_letters_of_the_alphabet = refl

-- six bits make no byte
pub one_letter_has_no_byte : base64_value (codes "Z") ≡ []
unfolding base64_value base64_class
one_letter_has_no_byte = refl

-- a line break in a group of four letters changes nothing
pub line_breaks_are_no_letters : base64_value (codes "Zm9\r\nvYmFy") ≡ codes "foobar"
unfolding base64_value base64_class
line_breaks_are_no_letters = refl

pub text_behind_spaces :
    base64_of (look_at (replicate 100 32 ++ letters_43 ++ codes "=") 100)
    ≡ Some (codes "http://example.com/hello-world-1")
unfolding base64_of base64_extent base64_value base64_class look_at
text_behind_spaces = refl

pub text_with_line_break :
    base64_of (look_at (codes "aHR0cDovL2V4YW1wbGUuY29tL2hlbGxv\r\nLXdvcmxkLTE=") 0)
    ≡ Some (codes "http://example.com/hello-world-1")
unfolding base64_of base64_extent base64_value base64_class look_at
text_with_line_break = refl

-- ---- where a text begins

pub letters_31_are_none : base64_extent (look_at letters_31 0) ≡ None
unfolding base64_extent base64_class look_at
letters_31_are_none = refl

pub letters_32_are_a_text : base64_extent (look_at letters_32 0) ≡ Some 32
unfolding base64_extent base64_class look_at
letters_32_are_a_text = refl

pub letters_33_are_a_text : base64_extent (look_at (letters_32 ++ codes "L") 0) ≡ Some 33
unfolding base64_extent base64_class look_at
letters_33_are_a_text = refl

pub no_text_begins_within_a_run : base64_extent (look_at letters_43 1) ≡ None
unfolding base64_extent base64_class look_at
no_text_begins_within_a_run = refl

pub no_text_begins_behind_a_line_of_32 :
    base64_extent (look_at (letters_32 ++ codes "\n" ++ letters_32) 33) ≡ None
unfolding base64_extent base64_class look_at
no_text_begins_behind_a_line_of_32 = refl

pub no_text_begins_behind_32_and_cr_lf :
    base64_extent (look_at (letters_32 ++ codes "\r\n" ++ letters_32) 34) ≡ None
unfolding base64_extent base64_class look_at
no_text_begins_behind_32_and_cr_lf = refl

pub text_begins_behind_a_line_of_31 :
    base64_extent (look_at (letters_31 ++ codes "\n" ++ letters_32) 32) ≡ Some 32
unfolding base64_extent base64_class look_at
text_begins_behind_a_line_of_31 = refl

pub text_begins_behind_an_empty_line :
    base64_extent (look_at (letters_32 ++ codes "\n\n" ++ letters_32) 34) ≡ Some 32
unfolding base64_extent base64_class look_at
text_begins_behind_an_empty_line = refl

-- CR alone breaks no line
pub text_begins_behind_cr : base64_extent (look_at (letters_32 ++ codes "\r" ++ letters_32) 33) ≡ Some 32
unfolding base64_extent base64_class look_at
text_begins_behind_cr = refl

-- ---- how far it goes

pub lines_of_one_length :
    base64_extent (look_at (letters_32 ++ codes "\n" ++ letters_32 ++ codes "\r\n" ++ letters_32 ++ codes "\n") 0)
    ≡ Some 99
unfolding base64_extent base64_class look_at
lines_of_one_length = refl

pub shorter_line_is_the_last :
    base64_extent (look_at (letters_32 ++ codes "\n" ++ letters_31 ++ codes "\r\n" ++ letters_32) 0) ≡ Some 64
unfolding base64_extent base64_class look_at
shorter_line_is_the_last = refl

pub longer_line_is_the_last :
    base64_extent (look_at (letters_32 ++ codes "\n" ++ letters_43 ++ codes "\n" ++ letters_43) 0) ≡ Some 76
unfolding base64_extent base64_class look_at
longer_line_is_the_last = refl

pub padding_ends_the_text : base64_extent (look_at (letters_32 ++ codes "=\n" ++ letters_32) 0) ≡ Some 32
unfolding base64_extent base64_class look_at
padding_ends_the_text = refl

pub empty_line_ends_the_text : base64_extent (look_at (letters_32 ++ codes "\n\n" ++ letters_32) 0) ≡ Some 32
unfolding base64_extent base64_class look_at
empty_line_ends_the_text = refl

pub cr_ends_the_text : base64_extent (look_at (letters_32 ++ codes "\r" ++ letters_32) 0) ≡ Some 32
unfolding base64_extent base64_class look_at
cr_ends_the_text = refl

-- ---- the most letters, on lines of four

pub room_for_both_lines : lines_extent 10 4 8 (codes "\nabcd\nabcd") ≡ 10
unfolding base64_class
room_for_both_lines = refl

pub room_cuts_the_second_line : lines_extent 10 4 6 (codes "\nabcd\nabcd\nabcd") ≡ 8
unfolding base64_class
room_cuts_the_second_line = refl

-- the line break ahead of it isn't taken either
pub no_room_for_the_second_line : lines_extent 10 4 4 (codes "\nabcd\nabcd") ≡ 5
unfolding base64_class
no_room_for_the_second_line = refl

pub room_cuts_a_last_line : lines_extent 10 4 5 (codes "\r\nabcdefg") ≡ 7
unfolding base64_class
room_cuts_a_last_line = refl

pub long_line_is_cut : text_extent (replicate 65537 65 ++ codes "\nA") ≡ 65536
unfolding base64_class
long_line_is_cut = refl

pub second_line_is_cut :
    text_extent (replicate 40000 65 ++ codes "\n" ++ replicate 40000 65) ≡ 65537
unfolding base64_class
second_line_is_cut = refl

-- a first line of all the letters is the whole text
pub no_letter_behind_the_most : text_extent (replicate 65536 65 ++ codes "\nA") ≡ 65536
unfolding base64_class
no_letter_behind_the_most = refl
