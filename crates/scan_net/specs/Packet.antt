-- The packets at a place, and the addresses in them: IPv4 (RFC 791 section 3.1) and Ethernet (RFC 894).
use Rattle.std.specs.Prelude.{ℕ, ◌+◌, ◌*◌, ◌/◌, ◌%◌, ◌==◌, ◌&&◌, nat_le, Bool, List, [], ◌∷◌, length, take, drop, map, fold, decimal, codes, slice_index, slice_range, Option, Some, None, if◌then◌else◌}
use Rattle.std.specs.List.{join_with_byte}
use Rattle.byte_kit.specs.Classes.{is_one_of}
use Rattle.sbuf_nest.specs.Around.{Around}
use Rattle.byte_kit.specs.Numbers.{be16}
use Rattle.scan_net.specs.declared.TheConstants.{ETHER_SIZE, ETHER_TYPE_IPV4}

-- the two addresses of a header as text, in their order, and how many bytes the header has
pub record Addresses : Type 0 where
  pub first : List ℕ
  pub second : List ℕ
  pub extent : ℕ

-- ---- the checksum (RFC 1071 section 1)

-- the bytes as 16-bit words, the high byte first
abbrev pub words_of : List ℕ → List ℕ
words_of (high ∷ low ∷ bytes) = (256 * high + low) ∷ words_of bytes
words_of bytes = []

-- the ones' complement sum of two words: a carry out of the high bit is added to the low one
abbrev pub add_words : ℕ → ℕ → ℕ
add_words a b = (a + b) % 65536 + (a + b) / 65536

-- the ones' complement sum of the words of a header, its checksum included, is all ones
abbrev pub has_checksum : List ℕ → Bool
has_checksum header = fold add_words 0 (words_of header) == 65535

-- ---- the IPv4 header at the front of some bytes

abbrev pub version : List ℕ → ℕ
version bytes = slice_index bytes 0 / 16

-- how many bytes the header has; its first byte counts them in words of 32 bits
abbrev pub header_size : List ℕ → ℕ
header_size bytes = 4 * (slice_index bytes 0 % 16)

-- how many bytes the header and what it carries have
abbrev pub total_size : List ℕ → ℕ
total_size bytes = be16 bytes 2

abbrev pub time_to_live : List ℕ → ℕ
time_to_live bytes = slice_index bytes 8

abbrev pub protocol : List ℕ → ℕ
protocol bytes = slice_index bytes 9

-- ICMP, TCP and UDP
abbrev pub known_protocols : List ℕ
known_protocols = 1 ∷ 6 ∷ 17 ∷ []

-- a whole IPv4 header stands at the front of the bytes
unfoldable pub begins_ipv4 : List ℕ → Bool
begins_ipv4 bytes =
    (version bytes == 4)
    && nat_le 20 (header_size bytes)
    && nat_le (header_size bytes) (length bytes)
    && nat_le (header_size bytes) (total_size bytes)
    && nat_le 1 (time_to_live bytes)
    && is_one_of known_protocols (protocol bytes)
    && has_checksum (take (header_size bytes) bytes)

-- ---- the addresses

-- decimals with dots between them
abbrev pub dotted : List ℕ → List ℕ
dotted address = join_with_byte 46 (map decimal address)

-- an IPv4 header at the place: its source, and then its destination
unfoldable pub ip_of : Around → Option Addresses
ip_of look =
    if begins_ipv4 look.after then Some (record {
      first = dotted (slice_range look.after 12 16);
      second = dotted (slice_range look.after 16 20);
      extent = header_size look.after;
    }) else None

-- two hexadecimal digits in lower case
abbrev pub hex_pair : ℕ → List ℕ
hex_pair byte =
    let digits = codes "0123456789abcdef" in
    slice_index digits (byte / 16) ∷ slice_index digits (byte % 16) ∷ []

-- pairs of hexadecimal digits with colons between them
abbrev pub with_colons : List ℕ → List ℕ
with_colons address = join_with_byte 58 (map hex_pair address)

-- an Ethernet header stands at the front of the bytes, with a whole IPv4 header right behind it
abbrev pub begins_ether : List ℕ → Bool
begins_ether bytes = (be16 bytes 12 == ETHER_TYPE_IPV4) && begins_ipv4 (drop ETHER_SIZE bytes)

-- an Ethernet header at the place: its destination, and then its source
unfoldable pub ether_of : Around → Option Addresses
ether_of look =
    if begins_ether look.after then Some (record {
      first = with_colons (slice_range look.after 0 6);
      second = with_colons (slice_range look.after 6 12);
      extent = ETHER_SIZE;
    }) else None
