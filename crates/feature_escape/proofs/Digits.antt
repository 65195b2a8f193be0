-- The digits of an escape, and the escape that they make.
use Rattle.std.proofs.Common.{◌≡◌, ℕ, ◌+◌, ◌*◌, ◌<◌, ◌≤◌, true, false, List, [], ◌∷◌, ◌⊎◌, inl, inr, length, drop, get_or, refl, arith}
use Rattle.std.proofs.lemmas.Bool.{or_cases, and_parts, leb-true}
use Rattle.byte_kit.specs.Classes.{in_range, hex_class}
use Rattle.feature_escape.specs.Escape.{begins_escape, digit_worth, unescape_lenient_of}

between : (low high digit : ℕ) → in_range low high digit ≡ true → (low ≤ digit) × (digit ≤ high)
between low high digit in_it =
    let parts = and_parts _ _ in_it in (leb-true low digit parts.0, leb-true digit high parts.1)

-- a hexadecimal digit is one of three ranges
pub hex_cases : (digit : ℕ) → hex_class digit ≡ true
    → ((48 ≤ digit) × (digit ≤ 57)) ⊎ (((65 ≤ digit) × (digit ≤ 70)) ⊎ ((97 ≤ digit) × (digit ≤ 102)))
unfolding hex_class
hex_cases digit is_digit =
    elim (or_cases _ (in_range 65 70 digit) is_digit) [
      | inr capital ↦ inr (inl (between 65 70 digit capital))
      | inl rest ↦ elim (or_cases (in_range 48 57 digit) (in_range 97 102 digit) rest) [
        | inl decimal ↦ inl (between 48 57 digit decimal)
        | inr small ↦ inr (inr (between 97 102 digit small))
      ]
    ]

-- an escape is read as its byte, and what follows it as ever
pub read_escape : (text : List ℕ) → begins_escape text ≡ true
    → unescape_lenient_of text ≡ (digit_worth (get_or text 2 0) * 16 + digit_worth (get_or text 3 0)) ∷ unescape_lenient_of (drop 4 text)
unfolding unescape_lenient_of
read_escape [] begins = cc
read_escape (a ∷ []) begins = cc
read_escape (a ∷ b ∷ []) begins = cc
read_escape (a ∷ b ∷ c ∷ []) begins = cc
read_escape (a ∷ b ∷ c ∷ d ∷ rest) begins = rw (unescape_lenient_of, begins)

-- where no escape begins, the first byte is itself
pub read_itself : (text : List ℕ) → 0 < length text → begins_escape text ≡ false
    → unescape_lenient_of text ≡ get_or text 0 0 ∷ unescape_lenient_of (drop 1 text)
unfolding unescape_lenient_of
read_itself [] some begins = absurd (omega arith)
read_itself (a ∷ []) some begins = refl
read_itself (a ∷ b ∷ []) some begins = refl
read_itself (a ∷ b ∷ c ∷ []) some begins = refl
read_itself (a ∷ b ∷ c ∷ d ∷ rest) some begins = rw (unescape_lenient_of, begins)
