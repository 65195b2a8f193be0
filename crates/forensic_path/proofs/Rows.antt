-- The texts of paths, and the bits and words of scanners, by example.
use Rattle.std.specs.Prelude.{◌≡◌, ◌^◌, List, [], ◌∷◌, map, filter, codes, refl}
use Rattle.std.specs.Fmt.{digits}
use Rattle.std.specs.List.{range_with_len}
use Rattle.forensic_path.specs.PathText.{path_text_of}
use Rattle.forensic_path.specs.Scanners.{bit_of, word_of, is_on}
use Rattle.forensic_path.specs.declared.path.Decoder.TheVariants.{Base64, Hex, Utf16, Xor}
use Rattle.forensic_path.specs.declared.scanner.Scanner.{Scanner}
use Rattle.forensic_path.specs.declared.scanner.Scanner.TheVariants as scanner

-- ---- paths

-- a place in the image is its offset alone
plain : path_text_of (record { top = 18446744073709551615; steps = [] }) ≡ codes "18446744073709551615"
unfolding path_text_of digits
plain = refl

-- the first byte of a Base64 value
one_step : path_text_of (record { top = 100; steps = record { by = Base64; at = 0 } ∷ [] }) ≡ codes "100-BASE64-0"
unfolding path_text_of digits
one_step = refl

-- the mask stands behind `XOR`, and the steps in their order
three_steps : path_text_of (record { top = 0; steps = record { by = Xor 255; at = 0 } ∷ record { by = Hex; at = 0 } ∷ record { by = Base64; at = 7 } ∷ [] })
    ≡ codes "0-XOR255-0-HEX-0-BASE64-7"
unfolding path_text_of digits
three_steps = refl

-- a place in the characters of a UTF-16 run
utf16_step : path_text_of (record { top = 12; steps = record { by = Utf16; at = 30 } ∷ [] }) ≡ codes "12-UTF16-30"
unfolding path_text_of digits
utf16_step = refl

-- ---- scanners

-- all of them, in the order of their bits
abbrev scanners : List Scanner
scanners =
    scanner.Url ∷ scanner.Domain ∷ scanner.Net ∷ scanner.Exec ∷ scanner.Unread ∷ scanner.Find ∷ scanner.Word
    ∷ scanner.Base64 ∷ scanner.Hex ∷ scanner.Utf16 ∷ []

bits : map bit_of scanners ≡ range_with_len 0 10
bits = refl

words : map word_of scanners
    ≡ codes "url" ∷ codes "domain" ∷ codes "net" ∷ codes "exec" ∷ codes "unread" ∷ codes "find" ∷ codes "word"
    ∷ codes "base64" ∷ codes "hex" ∷ codes "utf16" ∷ []
words = refl

-- each bit alone is the scanner of that bit
one_bit : map (λ bit. filter (is_on (2 ^ bit)) scanners) (range_with_len 0 10) ≡ map (λ s. s ∷ []) scanners
one_bit = refl

-- 0x03BF, which is on by default, is all but the words, and 3 is the URLs and the domains
several : map (λ number. filter (is_on number) scanners) (959 ∷ 3 ∷ 0 ∷ 1023 ∷ 1024 ∷ [])
    ≡ (scanner.Url ∷ scanner.Domain ∷ scanner.Net ∷ scanner.Exec ∷ scanner.Unread ∷ scanner.Find ∷ scanner.Base64 ∷ scanner.Hex ∷ scanner.Utf16 ∷ [])
    ∷ (scanner.Url ∷ scanner.Domain ∷ []) ∷ [] ∷ scanners ∷ [] ∷ []
several = refl
