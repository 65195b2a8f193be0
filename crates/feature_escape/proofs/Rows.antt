-- Escapes by example.
use Rattle.std.specs.Prelude.{◌≡◌, [], ◌∷◌, ◌++◌, map, codes, refl}
use Rattle.std.specs.List.{range_with_len}
use Rattle.byte_kit.specs.Classes.{printable_class, hex_class}
use Rattle.feature_escape.specs.Escape.{escape_of, unescape_lenient_of}

-- TAB, the backslash and a byte above 127 are escaped
escapes : escape_of (9 ∷ 92 ∷ 255 ∷ []) ≡ codes "\\x09\\x5C\\xFF"
unfolding escape_of printable_class
escapes = refl

-- what is printable stands, and so does an `x`
stands_as_it_is : escape_of (codes "see x5C ~") ≡ codes "see x5C ~"
unfolding escape_of printable_class
stands_as_it_is = refl

-- the digits of an escape are read in either case
either_case : unescape_lenient_of (codes "a\\x5cb\\x5C\\xfF") ≡ codes "a\\b\\" ++ 255 ∷ []
unfolding unescape_lenient_of hex_class
either_case = refl

-- what is no escape is itself: too few digits, a letter that is none, a capital `X`
no_escapes : map unescape_lenient_of (codes "\\x4" ∷ codes "\\x4g" ∷ codes "\\X41" ∷ codes "\\\\x" ∷ [])
    ≡ codes "\\x4" ∷ codes "\\x4g" ∷ codes "\\X41" ∷ codes "\\\\x" ∷ []
unfolding unescape_lenient_of hex_class
no_escapes = refl

-- a byte that an escape gives begins no escape
read_once : unescape_lenient_of (codes "\\x5Cx41") ≡ codes "\\x41"
unfolding unescape_lenient_of hex_class
read_once = refl

-- each byte's escape is read as the byte
all_bytes : unescape_lenient_of (escape_of (range_with_len 0 256)) ≡ range_with_len 0 256
unfolding escape_of unescape_lenient_of printable_class hex_class
all_bytes = refl
