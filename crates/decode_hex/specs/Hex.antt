-- A run of hexadecimal digits at a place, and its value (RFC 4648 section 8, in either case).
use Rattle.std.specs.Prelude.{◌≡◌, ℕ, ◌+◌, ◌*◌, ◌/◌, ◌&&◌, nat_eq, nat_le, min, List, [], ◌∷◌, take, codes, Option, Some, None, option_map, if◌then◌else◌}
use Rattle.std.specs.List.{prefix_len, position_or_len}
use Rattle.std.specs.Char.{to_ascii_lowercase}
use Rattle.byte_kit.specs.Classes.{hex_class}
use Rattle.sbuf_nest.specs.Around.{Around}
use Rattle.sbuf_nest.specs.declared.mark.Extent.{Extent}
use Rattle.sbuf_nest.specs.Edges.{begins_run}
use Rattle.decode_hex.specs.declared.TheConstants.{DIGITS_LEAST, DIGITS_MOST}

-- whole pairs of digits alone: an odd last digit is left off
abbrev pub paired : ℕ → ℕ
paired digits = 2 * (digits / 2)

-- how many bytes the run of digits at the place covers: from 32 to 16,384, as far as they are pairs
unfoldable pub hex_extent : Around → Option ℕ
hex_extent look =
    let run = prefix_len hex_class look.after in
    if begins_run hex_class look && nat_le DIGITS_LEAST run then Some (paired (min run DIGITS_MOST)) else None

-- the run of digits at the place: the bytes that it covers, of which each one is a digit
unfoldable pub hex_run : Around → Option Extent
hex_run look = option_map (λ count. record { bytes = count; units = count }) (hex_extent look)

-- a run of this extent stands at some place from which on these are the bytes
abbrev pub IsText : List ℕ → Extent → Type 0
IsText after extent = (before : List ℕ) × (hex_run (record { before = before; after = after }) ≡ Some extent)

-- the sixteen digits, each at the place that is its number
abbrev pub digits : List ℕ
digits = codes "0123456789abcdef"

-- the number of a digit of either case
abbrev pub digit_number : ℕ → ℕ
digit_number digit = position_or_len (nat_eq (to_ascii_lowercase digit)) digits

-- the value of a run: a byte for each two digits, the high one first
unfoldable pub hex_value : List ℕ → List ℕ
hex_value (high ∷ low ∷ text) = (16 * digit_number high + digit_number low) ∷ hex_value text
hex_value text = []

-- the value of the run of digits at the place
unfoldable pub hex_of : Around → Option (List ℕ)
hex_of look = option_map (λ extent. hex_value (take extent look.after)) (hex_extent look)
