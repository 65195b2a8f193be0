-- The Base64 text of a place with its count of letters.
use Rattle.std.specs.Prelude.{ℕ, ◌≡◌, ◌+◌, min, List, length, take, filter, Option, Some, option_map, MatchOption}
use Rattle.byte_kit.specs.Classes.{base64_class}
use Rattle.sbuf_nest.specs.Around.{Around}
use Rattle.sbuf_nest.specs.declared.mark.Extent.{Extent}
use Rattle.decode_base64.specs.Base64.{Line, next_line, base64_extent}

-- how many of the bytes are letters
abbrev pub letter_count : List ℕ → ℕ
letter_count bytes = length (filter base64_class bytes)

-- the Base64 text at the place: how many bytes it covers, and how many letters they hold
unfoldable pub base64_text : Around → Option Extent
base64_text look =
    option_map (λ bytes. record { bytes = bytes; units = letter_count (take bytes look.after) }) (base64_extent look)

-- a text of this extent begins somewhere where these bytes stand from the place on
abbrev pub IsText : List ℕ → Extent → Type 0
IsText after extent = (before : List ℕ) × (base64_text (record { before = before; after = after }) ≡ Some extent)

-- so many bytes and letters are the line at the front, of which up to `room` letters are taken, or both
-- are 0 where there is none
abbrev pub IsNextLine : List ℕ → ℕ → ℕ → ℕ → Type 0
IsNextLine bytes room covered letters =
    MatchOption (next_line bytes) ((covered ≡ 0) × (letters ≡ 0))
    (λ (line : Line). (covered ≡ line.ahead + min line.letters room) × (letters ≡ min line.letters room))
