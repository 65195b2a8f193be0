-- The checksum of a header by the plain sum of its words.
use Rattle.std.specs.Prelude.{ℕ, zero, suc, ◌≡◌, ◌<◌, ◌≤◌, ◌+◌, ◌*◌, ◌/◌, ◌%◌, ◌==◌, ◌&&◌, nat_lt, Bool, List, [], ◌∷◌, fold, sum, All, refl, length, drop}
use Rattle.std.proofs.Common.{length-drop, ap}
use Rattle.std.proofs.lemmas.List.{get_or_default}
use Rattle.byte_kit.specs.Numbers.{be16}
use Rattle.std.proofs.lemmas.List.Elements.{All-nil, All-cons, All-tail}
use Rattle.std.proofs.lemmas.Bool.Decides.{nat_tests}
use native.Mathlib.Omega.{arith}
use Rattle.scan_net.proofs.Bytes.{Fit, two_from}
use Rattle.scan_net.specs.Packet.{add_words, words_of, has_checksum}

-- a multiple of 65,535, but not 0
abbrev pub is_whole : ℕ → Bool
is_whole total = nat_lt 0 total && (total % 65535 == 0)

-- a ones' complement sum beside the plain one: carries took off 65,535 each, but never all
record Beside (carried plain : ℕ) : Type 0 where
  small : carried ≤ 65535
  carries : ℕ
  apart : plain ≡ carried + 65535 * carries
  kept : 0 < plain → 0 < carried

-- so it goes on with one word more
beside_more : (carried plain word : ℕ) → word ≤ 65535 → Beside carried plain
    → Beside (add_words carried word) (plain + word)
beside_more carried plain word small b = record {
  small = omega (arith, b.small);
  carries = b.carries + (carried + word) / 65536;
  apart = omega (arith, b.small, b.apart);
  kept = λ positive. grind (arith, b.small, b.kept);
}

-- it is all ones where the plain one is a multiple
beside_end : (carried plain : ℕ) → Beside carried plain → (carried == 65535) ≡ is_whole plain
beside_end carried plain b = grind (arith, nat_tests, b.small, b.apart, b.kept)

-- a number that fits a word
abbrev pub IsWord : ℕ → Type 0
IsWord word = word ≤ 65535

-- and so at the end of a list of words
beside_sum : (carried plain : ℕ) (words : List ℕ) → Beside carried plain → All IsWord words
    → (fold add_words carried words == 65535) ≡ is_whole (fold (λ a x. a + x) plain words)
beside_sum carried plain [] b small = beside_end carried plain b
beside_sum carried plain (word ∷ words) b small =
    beside_sum (add_words carried word) (plain + word) words
    (beside_more carried plain word (small zero 0 (omega arith)) b) (All-tail IsWord word words small)

abbrev pub IsByte : ℕ → Type 0
IsByte byte = byte < 256

-- the words of bytes fit
words_small : (bytes : List ℕ) → All IsByte bytes → All IsWord (words_of bytes)
words_small [] small = All-nil IsWord
words_small (byte ∷ []) small = All-nil IsWord
words_small (high ∷ low ∷ bytes) small =
    let high_small : high < 256 = small zero 0 (omega arith) in
    let low_small : low < 256 = small (suc zero) 0 (omega arith) in
    let rest : All IsByte bytes = All-tail IsByte low bytes (All-tail IsByte high (low ∷ bytes) small) in
    All-cons IsWord (256 * high + low) (words_of bytes) (omega arith) (words_small bytes rest)

-- the sum with end-around carry is all ones where the plain sum is a multiple of 65,535, but not 0
pub has_checksum_by_sum : (header : List ℕ) → All IsByte header
    → has_checksum header ≡ is_whole (sum (words_of header))
has_checksum_by_sum header small =
    let none : Beside 0 0 = record { small = omega arith; carries = 0; apart = refl; kept = λ positive. positive } in
    beside_sum 0 0 (words_of header) none (words_small header small)

-- the words from a place on begin with the two bytes there
pub words_more : (bytes : List ℕ) (at : ℕ) → at + 2 ≤ length bytes
    → words_of (drop at bytes) ≡ be16 bytes at ∷ words_of (drop (at + 2) bytes)
words_more bytes at fits = ap words_of (two_from bytes at fits)

-- none are left where fewer than two bytes are
pub words_end : (bytes : List ℕ) (at : ℕ) → length bytes < at + 2 → words_of (drop at bytes) ≡ []
words_end bytes at few = short (drop at bytes) (omega (arith, length-drop at bytes))
  where
    short : (rest : List ℕ) → length rest < 2 → words_of rest ≡ []
    short [] few = refl
    short (last ∷ []) few = refl
    short (high ∷ low ∷ rest) few = absurd (omega arith)

-- the bytes of a slice fit
pub bytes_small : (bytes : List ℕ) → Fit bytes → All IsByte bytes
bytes_small bytes fits = λ i d within. omega (arith, get_or_default bytes i d 0 within, fits i)
