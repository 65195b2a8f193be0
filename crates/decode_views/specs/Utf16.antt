-- A run of printable ASCII in UTF-16LE (RFC 2781 section 3.1) at a place, and its value.
use Rattle.std.specs.Prelude.{◌≡◌, ℕ, ◌+◌, ◌-◌, ◌*◌, ◌/◌, ◌==◌, ◌&&◌, nat_le, Bool, min, List, [], ◌∷◌, length, take, drop, Option, Some, None, option_map, if◌then◌else◌}
use Rattle.byte_kit.specs.Classes.{printable_class}
use Rattle.sbuf_nest.specs.Around.{Around}
use Rattle.sbuf_nest.specs.declared.mark.Extent.{Extent}
use Rattle.decode_views.specs.declared.TheConstants.{PAIRS_LEAST, PAIRS_MOST}

-- a printable byte and a zero byte
abbrev pub is_pair : ℕ → ℕ → Bool
is_pair byte zero_byte = printable_class byte && (zero_byte == 0)

-- how many pairs stand in front
abbrev pub pairs_in : List ℕ → ℕ
pairs_in (byte ∷ zero_byte ∷ bytes) = if is_pair byte zero_byte then 1 + pairs_in bytes else 0
pairs_in bytes = 0

-- how many of the last two bytes, where there are two, are a pair: one or none
abbrev pub last_pairs : List ℕ → ℕ
last_pairs bytes = pairs_in (drop (length bytes - 2) bytes)

-- the last two bytes ahead of the place, where there are two, are no pair
abbrev pub begins_pairs : Around → Bool
begins_pairs look = last_pairs look.before == 0

-- how many bytes the run of pairs at the place covers: from 8 to 4,096 pairs
unfoldable pub utf16_extent : Around → Option ℕ
utf16_extent look =
    let pairs = pairs_in look.after in
    if begins_pairs look && nat_le PAIRS_LEAST pairs then Some (2 * min pairs PAIRS_MOST) else None

-- the run of pairs at the place: the bytes that it covers, and its pairs
unfoldable pub utf16_run : Around → Option Extent
utf16_run look = option_map (λ bytes. record { bytes = bytes; units = bytes / 2 }) (utf16_extent look)

-- a run of this extent stands at some place from which on these are the bytes
abbrev pub IsText : List ℕ → Extent → Type 0
IsText after extent = (before : List ℕ) × (utf16_run (record { before = before; after = after }) ≡ Some extent)

-- the value of a run: the first byte of each pair
unfoldable pub utf16_value : List ℕ → List ℕ
utf16_value (byte ∷ zero_byte ∷ text) = byte ∷ utf16_value text
utf16_value text = []

-- the value of the run of pairs at the place
unfoldable pub utf16_of : Around → Option (List ℕ)
utf16_of look = option_map (λ extent. utf16_value (take extent look.after)) (utf16_extent look)
