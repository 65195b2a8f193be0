-- What a block holds, by its number and its random word.
use Rattle.std.specs.Prelude.{ℕ, ◌+◌, ◌/◌, ◌%◌, List, [], ◌∷◌, ◌++◌, take, drop, replicate, flat_map, codes, slice_index_or}
use Rattle.base64.specs.GeneralPurpose.{encode_of}
use Rattle.base64.specs.Engines.{standard}
use Rattle.hex.specs.Hex.{encode_lower}
use Rattle.image_gen.specs.Packet.{ethernet_header, ipv4_header}
use Rattle.image_gen.specs.declared.block.TheConstants.{BLOCK_SIZE}
use Rattle.image_gen.specs.declared.kind.Kind.{Kind}
use Rattle.image_gen.specs.declared.kind.Kind.TheVariants.{Line, Base64, Wide, Packet, Empty, Elf, Gzip, Hex}

-- ---- the URL of a word

-- a number below 1,000 as three decimal digits
abbrev pub three_digits : ℕ → List ℕ
three_digits number = (48 + number / 100) ∷ (48 + number / 10 % 10) ∷ (48 + number % 10) ∷ []

-- the word chooses a host and a name below it, by its last six decimal digits
unfoldable pub url_of : ℕ → List ℕ
url_of word =
    codes "http://h" ++ three_digits (word % 1000) ++ codes ".example/i-" ++ three_digits (word / 1000 % 1000)

unfoldable pub link_of : ℕ → List ℕ
link_of word = codes "Link " ++ url_of word

unfoldable pub note_of : ℕ → List ℕ
note_of word = codes "Kept link " ++ url_of word ++ codes " in this note."

-- ---- the eight kinds

abbrev pub seen_line : ℕ → List ℕ
seen_line word = codes "Seen at " ++ url_of word ++ codes " and kept.\n"

-- the note in Base64 with padding (RFC 4648 section 4): 68 letters
unfoldable pub letters_of : ℕ → List ℕ
letters_of word = encode_of standard (note_of word)

-- CR LF behind each row of so many letters, and behind the last ones: two whole rows, and what is left
unfoldable pub lines_of : ℕ → List ℕ → List ℕ
lines_of size letters =
    take size letters ++ codes "\r\n" ++ take size (drop size letters) ++ codes "\r\n" ++ drop size (drop size letters) ++ codes "\r\n"

-- ASCII as UTF-16, the low byte first: each byte has a zero byte behind it
abbrev pub widened : List ℕ → List ℕ
widened text = flat_map (λ byte. byte ∷ 0 ∷ []) text

-- the word's two low bytes are the last ones of the addresses
abbrev pub packet_of : ℕ → List ℕ
packet_of word = ethernet_header ++ ipv4_header (word % 256) (word / 256 % 256)

-- an ELF header's first 20 bytes, those of a program for x86-64
abbrev pub elf_front : List ℕ
elf_front = 0x7f ∷ 0x45 ∷ 0x4c ∷ 0x46 ∷ 2 ∷ 1 ∷ 1 ∷ 0 ∷ 0 ∷ 0 ∷ 0 ∷ 0 ∷ 0 ∷ 0 ∷ 0 ∷ 0 ∷ 2 ∷ 0 ∷ 0x3e ∷ 0 ∷ []

-- a gzip file's first four bytes (RFC 1952 section 2.3)
abbrev pub gzip_front : List ℕ
gzip_front = 0x1f ∷ 0x8b ∷ 8 ∷ 0 ∷ []

-- ---- the block

-- the kinds follow each other by turns
abbrev pub kind_of : ℕ → Kind
kind_of number =
    slice_index_or (Line ∷ Base64 ∷ Wide ∷ Packet ∷ Empty ∷ Elf ∷ Gzip ∷ Hex ∷ []) (number % 8) Empty

-- what a block of this kind holds for a word
unfoldable pub text_of : Kind → ℕ → List ℕ
text_of Line word = seen_line word
text_of Base64 word = lines_of 32 (letters_of word)
text_of Wide word = widened (link_of word)
text_of Packet word = packet_of word
text_of Empty word = []
text_of Elf word = elf_front
text_of Gzip word = gzip_front
text_of Hex word = encode_lower (link_of word)

-- so many bytes: the text, and zeros behind it
unfoldable pub filled : ℕ → List ℕ → List ℕ
filled size text = take size (text ++ replicate size 0)

-- the block with this number, for this word
abbrev pub block_of : ℕ → ℕ → List ℕ
block_of number word = filled BLOCK_SIZE (text_of (kind_of number) word)
