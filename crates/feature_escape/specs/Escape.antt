-- Escapes: any bytes as printable text, and a text that anybody wrote read as bytes.
use Rattle.std.specs.Prelude.{◌≡◌, ◌≢◌, ℕ, ◌+◌, ◌-◌, ◌*◌, ◌/◌, ◌%◌, ◌<◌, Bool, true, false, List, [], ◌∷◌, ◌++◌, not, ◌&&◌, ◌==◌, nat_lt, if◌then◌else◌, flat_map}
use Rattle.std.specs.List.{AllByRecursion}
use Rattle.byte_kit.specs.Classes.{printable_class, hex_class}

-- the capital that is this hexadecimal digit, from `0` to `F`
abbrev pub hex_capital : ℕ → ℕ
hex_capital digit = if nat_lt digit 10 then 48 + digit else 55 + digit

-- a printable byte other than the backslash stands as it is
abbrev pub stands : ℕ → Bool
stands byte = printable_class byte && not (byte == 92)

-- every other byte is `\x` and its two digits, the high one first
abbrev pub escaped : ℕ → List ℕ
escaped byte =
    if stands byte then byte ∷ []
    else 92 ∷ 120 ∷ hex_capital (byte / 16) ∷ hex_capital (byte % 16) ∷ []

-- the text of the bytes
unfoldable pub escape_of : List ℕ → List ℕ
escape_of bytes = flat_map escaped bytes

-- each number of the list is a byte
abbrev pub AreBytes : List ℕ → Type 0
AreBytes bytes = AllByRecursion (λ byte. byte < 256) bytes

-- the text is the escape of no bytes
abbrev pub IsNoEscape : List ℕ → Type 0
IsNoEscape text = (bytes : List ℕ) → AreBytes bytes → escape_of bytes ≢ text

-- the text begins with the escape of no byte that is escaped by digits
abbrev pub BeginsNoEscape : List ℕ → Type 0
BeginsNoEscape text =
    (byte : ℕ) (rest : List ℕ) → byte < 256 → stands byte ≡ false → text ≢ escaped byte ++ rest

-- what a hexadecimal digit of either case is worth
abbrev pub digit_worth : ℕ → ℕ
digit_worth digit =
    if nat_lt digit 58 then digit - 48 else (if nat_lt digit 71 then digit - 55 else digit - 87)

-- the four bytes are `\x` and two hexadecimal digits of either case
abbrev pub is_escape : ℕ → ℕ → ℕ → ℕ → Bool
is_escape a b high low = (a == 92) && (b == 120) && hex_class high && hex_class low

-- such four bytes begin the text
abbrev pub begins_escape : List ℕ → Bool
begins_escape (a ∷ b ∷ high ∷ low ∷ rest) = is_escape a b high low
begins_escape text = false

-- the lenient reading: `\x` and two hexadecimal digits are one byte, and every other byte is itself
unfoldable pub unescape_lenient_of : List ℕ → List ℕ
unescape_lenient_of (a ∷ b ∷ c ∷ d ∷ rest) =
    elim (is_escape a b c d) [
      | true ↦ (digit_worth c * 16 + digit_worth d) ∷ unescape_lenient_of rest
      | false ↦ a ∷ unescape_lenient_of (b ∷ c ∷ d ∷ rest)
    ]
unescape_lenient_of bytes = bytes

-- the lenient reading of the escape of any bytes is these bytes
abbrev pub LenientUndoesEscape : Type 0
LenientUndoesEscape = (bytes : List ℕ) → AreBytes bytes → unescape_lenient_of (escape_of bytes) ≡ bytes
