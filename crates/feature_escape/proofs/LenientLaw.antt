-- Lenient reading undoes escapes.
use Rattle.std.specs.Prelude.{◌≡◌, ℕ, ◌+◌, ◌*◌, ◌/◌, ◌%◌, ◌<◌, Bool, true, false, cond, List, [], ◌∷◌, ◌++◌, not, ◌&&◌, ◌==◌, refl}
use Rattle.std.specs.List.{AllByRecursion}
use Rattle.std.proofs.Common.{ap, ◌∙◌}
use Rattle.std.proofs.lemmas.Bool.{agree_below_at, eqb-true}
use Rattle.byte_kit.specs.Classes.{printable_class, hex_class}
use Rattle.feature_escape.specs.Escape.{hex_capital, stands, escaped, escape_of, digit_worth, is_escape, unescape_lenient_of}

-- a byte other than the backslash is read as itself, whatever follows it
pub one_byte : (byte : ℕ) (text : List ℕ) → (byte == 92) ≡ false → unescape_lenient_of (byte ∷ text) ≡ byte ∷ unescape_lenient_of text
unfolding unescape_lenient_of
one_byte byte [] other = refl
one_byte byte (b ∷ []) other = refl
one_byte byte (b ∷ c ∷ []) other = refl
one_byte byte (b ∷ c ∷ d ∷ text) other = rw (unescape_lenient_of, other)

-- the high and the low digit of a byte
abbrev high : ℕ → ℕ
high byte = hex_capital (byte / 16)

abbrev low : ℕ → ℕ
low byte = hex_capital (byte % 16)

are_digits : (byte : ℕ) → byte < 256 → is_escape 92 120 (high byte) (low byte) ≡ true
unfolding hex_class
are_digits byte small = agree_below_at (λ b. is_escape 92 120 (high b) (low b)) (λ _. true) 256 byte refl small

are_worth : (byte : ℕ) → byte < 256 → digit_worth (high byte) * 16 + digit_worth (low byte) ≡ byte
are_worth byte small =
    eqb-true _ byte (agree_below_at (λ b. digit_worth (high b) * 16 + digit_worth (low b) == b) (λ _. true) 256 byte refl small)

-- a byte's two digits are read as the byte, whatever follows them
one_escape : (byte : ℕ) (text : List ℕ) → byte < 256
    → unescape_lenient_of (92 ∷ 120 ∷ high byte ∷ low byte ∷ text) ≡ byte ∷ unescape_lenient_of text
unfolding unescape_lenient_of
one_escape byte text small = rw (unescape_lenient_of, are_digits byte small, are_worth byte small)

no_backslash : (printable backslash : Bool) → (printable && not backslash) ≡ true → backslash ≡ false
no_backslash printable false stands_so = refl
no_backslash true true stands_so = cc
no_backslash false true stands_so = cc

by_stands : (byte : ℕ) (text : List ℕ) → byte < 256 → (b : Bool) → stands byte ≡ b
    → unescape_lenient_of (cond b (byte ∷ []) (92 ∷ 120 ∷ high byte ∷ low byte ∷ []) ++ text) ≡ byte ∷ unescape_lenient_of text
by_stands byte text small true is = one_byte byte text (no_backslash (printable_class byte) (byte == 92) is)
by_stands byte text small false is = one_escape byte text small

-- what a byte is escaped as is read as the byte
pub one_more : (byte : ℕ) (text : List ℕ) → byte < 256 → unescape_lenient_of (escaped byte ++ text) ≡ byte ∷ unescape_lenient_of text
one_more byte text small = by_stands byte text small (stands byte) refl

-- the escape of any bytes is read as these bytes
pub lenient_undoes : (bytes : List ℕ) → AllByRecursion (λ byte. byte < 256) bytes → unescape_lenient_of (escape_of bytes) ≡ bytes
unfolding escape_of unescape_lenient_of
lenient_undoes [] small = refl
lenient_undoes (byte ∷ bytes) small = one_more byte (escape_of bytes) small.0 ∙ ap (λ rest. byte ∷ rest) (lenient_undoes bytes small.1)
