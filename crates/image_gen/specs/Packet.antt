-- A packet of no more than headers: Ethernet (RFC 894) and IPv4 (RFC 791 section 3.1), from 192.0.2.0/24 to
-- 198.51.100.0/24, two networks that stand in documents alone (RFC 5737).
use Rattle.std.specs.Prelude.{ℕ, ◌+◌, ◌-◌, ◌*◌, ◌/◌, ◌%◌, List, [], ◌∷◌, length, map, fold}
use Rattle.std.specs.List.{range_with_len}
use Rattle.byte_kit.specs.Numbers.{be16}

-- from 02:00:00:00:00:02 to 02:00:00:00:00:01, with IPv4 behind it
abbrev pub ethernet_header : List ℕ
ethernet_header = 2 ∷ 0 ∷ 0 ∷ 0 ∷ 0 ∷ 1 ∷ 2 ∷ 0 ∷ 0 ∷ 0 ∷ 0 ∷ 2 ∷ 8 ∷ 0 ∷ []

-- the header of a UDP datagram of 28 bytes, with this checksum and these last bytes of its addresses
abbrev pub header_with : ℕ → ℕ → ℕ → List ℕ
header_with checksum from to =
    0x45 ∷ 0 ∷ 0 ∷ 0x1c ∷ 0 ∷ 0 ∷ 0x40 ∷ 0 ∷ 0x40 ∷ 0x11
    ∷ (checksum / 256) ∷ (checksum % 256) ∷ 192 ∷ 0 ∷ 2 ∷ from ∷ 198 ∷ 51 ∷ 100 ∷ to ∷ []

-- ---- the checksum (RFC 1071 section 1)

-- the bytes as 16-bit words, the high byte first
abbrev pub words_of : List ℕ → List ℕ
words_of bytes = map (λ number. be16 bytes (2 * number)) (range_with_len 0 (length bytes / 2))

-- the ones' complement sum of two words: a carry out of the high bit is added to the low one
abbrev pub add_words : ℕ → ℕ → ℕ
add_words a b = (a + b) % 65536 + (a + b) / 65536

-- the ones' complement of the ones' complement sum of a header's words, in which its own checksum counts as zero
unfoldable pub checksum_of : List ℕ → ℕ
checksum_of header = 65535 - fold add_words 0 (words_of header)

-- the header with its checksum
abbrev pub ipv4_header : ℕ → ℕ → List ℕ
ipv4_header from to = header_with (checksum_of (header_with 0 from to)) from to
