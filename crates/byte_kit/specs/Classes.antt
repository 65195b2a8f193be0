-- The classes of bytes: ranges of ASCII (RFC 20), and the marks that a class has besides.
use Rattle.std.specs.Prelude.{ℕ, Bool, List, ◌==◌, ◌&&◌, ◌||◌, nat_le, codes}
use Rattle.std.specs.List.{list_any}

-- a byte from low to high, both included
abbrev pub in_range : ℕ → ℕ → ℕ → Bool
in_range low high byte = nat_le low byte && nat_le byte high

-- the byte stands in the list
abbrev pub is_one_of : List ℕ → ℕ → Bool
is_one_of bytes byte = list_any (λ b. byte == b) bytes

-- `A` to `Z` and `a` to `z`
unfoldable pub letter_class : ℕ → Bool
letter_class byte = in_range 65 90 byte || in_range 97 122 byte

-- `0` to `9`
unfoldable pub digit_class : ℕ → Bool
digit_class byte = in_range 48 57 byte

-- the marks of a URL: unreserved, reserved and `%` (RFC 3986 section 2)
abbrev pub url_marks : List ℕ
url_marks = codes "-._~:/?#[]@!$&'()*+,;=%"

-- a byte that may stand in a URL
unfoldable pub url_class : ℕ → Bool
url_class byte = in_range 65 90 byte || in_range 97 122 byte || in_range 48 57 byte || is_one_of url_marks byte

-- a byte of a host's name: a letter, a digit, `-` or `.`
unfoldable pub host_class : ℕ → Bool
host_class byte = in_range 65 90 byte || in_range 97 122 byte || in_range 48 57 byte || is_one_of (codes "-.") byte

-- a letter of the Base64 alphabet (RFC 4648 section 4), without the padding
unfoldable pub base64_class : ℕ → Bool
base64_class byte = in_range 65 90 byte || in_range 97 122 byte || in_range 48 57 byte || is_one_of (codes "+/") byte

-- a hexadecimal digit of either case
unfoldable pub hex_class : ℕ → Bool
hex_class byte = in_range 48 57 byte || in_range 97 102 byte || in_range 65 70 byte

-- a byte of a word: visible ASCII
unfoldable pub word_class : ℕ → Bool
word_class byte = in_range 33 126 byte

-- visible ASCII, and the blank
unfoldable pub printable_class : ℕ → Bool
printable_class byte = in_range 32 126 byte
