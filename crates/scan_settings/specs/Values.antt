-- What a word is as the value of an option: a number, a scanner, or a text.
use Rattle.std.specs.Prelude.{ℕ, ◌^◌, option_and_then, Bool, ◌==◌, ◌&&◌, ◌||◌, not, nat_lt, nat_le, List, [], ◌∷◌, length, slice_index, Option, Some, None, if◌then◌else◌, bytes_eq}
use Rattle.std.specs.List.{find}
use Rattle.std.specs.Str.{all_ascii_digits}
use Rattle.std.specs.Str.Parse.{digits_value}
use Rattle.forensic_path.specs.declared.scanner.Scanner.{Scanner}
use Rattle.forensic_path.specs.declared.scanner.Scanner.TheVariants.{Url, Domain, Net, Exec, Unread, Find, Word, Base64, Hex, Utf16}
use Rattle.forensic_path.specs.Scanners.{word_of}
use Rattle.scan_settings.specs.declared.values.NumberRange.{NumberRange}

-- digits, at least one, and no zero ahead of others
unfoldable pub is_decimal : List ℕ → Bool
is_decimal word = nat_lt 0 (length word) && all_ascii_digits word && ((length word == 1) || not (slice_index word 0 == 48))

-- the number below 2^64 that a word is
unfoldable pub number_of : List ℕ → Option ℕ
number_of word = if is_decimal word && nat_lt (digits_value 10 word) (2 ^ 64) then Some (digits_value 10 word) else None

abbrev pub within : NumberRange → ℕ → Option ℕ
within range number = if nat_le range.least number && nat_le number range.greatest then Some number else None

-- the number of a range that a word is
unfoldable pub number_in : NumberRange → List ℕ → Option ℕ
number_in range word = option_and_then (within range) (number_of word)

-- all scanners
abbrev pub scanners : List Scanner
scanners = Url ∷ Domain ∷ Net ∷ Exec ∷ Unread ∷ Find ∷ Word ∷ Base64 ∷ Hex ∷ Utf16 ∷ []

-- the first of these that a word names
abbrev pub scanner_in : List Scanner → List ℕ → Option Scanner
scanner_in scanners word = find (λ scanner. bytes_eq (word_of scanner) word) scanners

-- the scanner that a word names
unfoldable pub scanner_of : List ℕ → Option Scanner
scanner_of word = scanner_in scanners word

-- a keyword or a pattern has 1 to 256 bytes
abbrev pub is_text : List ℕ → Bool
is_text word = nat_lt 0 (length word) && nat_le (length word) 256
