-- The scanners and decoders by bit and by word.
use Rattle.std.specs.Prelude.{ℕ, Bool, List, ◌==◌, codes}
use Rattle.std.specs.Int.{bit_at}
use Rattle.forensic_path.specs.declared.scanner.Scanner.{Scanner}
use Rattle.forensic_path.specs.declared.scanner.Scanner.TheVariants.{Url, Domain, Net, Exec, Unread, Find, Word, Base64, Hex, Utf16}

-- the bit of a plan's number that stands for a scanner
abbrev pub bit_of : Scanner → ℕ
bit_of Url = 0
bit_of Domain = 1
bit_of Net = 2
bit_of Exec = 3
bit_of Unread = 4
bit_of Find = 5
bit_of Word = 6
bit_of Base64 = 7
bit_of Hex = 8
bit_of Utf16 = 9

-- the word that names a scanner
abbrev pub word_of : Scanner → List ℕ
word_of Url = codes "url"
word_of Domain = codes "domain"
word_of Net = codes "net"
word_of Exec = codes "exec"
word_of Unread = codes "unread"
word_of Find = codes "find"
word_of Word = codes "word"
word_of Base64 = codes "base64"
word_of Hex = codes "hex"
word_of Utf16 = codes "utf16"

-- the scanner is on in a plan with these bits
abbrev pub is_on : ℕ → Scanner → Bool
is_on scanners scanner = bit_at scanners (bit_of scanner) == 1
