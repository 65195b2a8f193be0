-- Images by example: words, texts and blocks.
use Rattle.std.specs.Prelude.{ℕ, ◌≡◌, [], ◌∷◌, map, fold, codes, refl}
use Rattle.std.specs.List.{range_with_len}
use Rattle.base64.specs.Rfc4648.{encode_symbols}
use Rattle.hex.specs.Hex.{encode_with}
use Rattle.image_gen.specs.Words.{state_after, word_at}
use Rattle.image_gen.specs.Packet.{words_of, add_words, checksum_of, ipv4_header}
use Rattle.image_gen.specs.Blocks.{url_of, link_of, note_of, letters_of, lines_of, widened, kind_of, text_of, filled}
use Rattle.image_gen.specs.declared.kind.Kind.TheVariants.{Line, Base64, Packet, Hex}

-- ---- words

-- the first numbers that SplitMix64 is known for
words : map (word_at 1234567) (range_with_len 0 3) ≡ 6457827717110365317 ∷ 3203168211198807973 ∷ 9817491932198370423 ∷ []
unfolding word_at state_after
words = refl

-- the state goes round behind its last value
last_seed : map (word_at 18446744073709551615) (range_with_len 0 2) ≡ 16490336266968443936 ∷ 16834447057089888969 ∷ []
unfolding word_at state_after
last_seed = refl

-- ---- texts

-- the last six decimal digits of the word, leading zeros included
line : text_of Line 7000000012005 ≡ codes "Seen at http://h005.example/i-012 and kept.\n"
unfolding text_of url_of
line = refl

letters : letters_of 7000000012005 ≡ codes "S2VwdCBsaW5rIGh0dHA6Ly9oMDA1LmV4YW1wbGUvaS0wMTIgaW4gdGhpcyBub3RlLg=="
unfolding letters_of note_of url_of encode_symbols
letters = refl

lines : lines_of 32 (letters_of 7000000012005)
    ≡ codes "S2VwdCBsaW5rIGh0dHA6Ly9oMDA1LmV4\r\nYW1wbGUvaS0wMTIgaW4gdGhpcyBub3Rl\r\nLg==\r\n"
unfolding lines_of letters_of note_of url_of encode_symbols
lines = refl

wide : widened (codes "Li") ≡ 0x4c ∷ 0 ∷ 0x69 ∷ 0 ∷ []
wide = refl

digits : text_of Hex 7000000012005 ≡ codes "4c696e6b20687474703a2f2f683030352e6578616d706c652f692d303132"
unfolding text_of link_of url_of encode_with
digits = refl

-- ---- packets

-- from 192.0.2.203 to 198.51.100.41
header : ipv4_header 203 41
    ≡ 0x45 ∷ 0 ∷ 0 ∷ 0x1c ∷ 0 ∷ 0 ∷ 0x40 ∷ 0 ∷ 0x40 ∷ 0x11 ∷ 0x4d ∷ 0xa9 ∷ 192 ∷ 0 ∷ 2 ∷ 203 ∷ 198 ∷ 51 ∷ 100 ∷ 41 ∷ []
unfolding checksum_of
header = refl

-- with its checksum the sum of a header's words is all ones
all_ones : map (λ (to : ℕ). fold add_words 0 (words_of (ipv4_header 255 to))) (0 ∷ 255 ∷ []) ≡ 65535 ∷ 65535 ∷ []
unfolding checksum_of
all_ones = refl

-- ---- blocks

turns : map kind_of (0 ∷ 3 ∷ 7 ∷ 8 ∷ 17 ∷ []) ≡ Line ∷ Packet ∷ Hex ∷ Line ∷ Base64 ∷ []
turns = refl

zeros_behind : filled 5 (codes "ab") ≡ 97 ∷ 98 ∷ 0 ∷ 0 ∷ 0 ∷ []
unfolding filled
zeros_behind = refl
