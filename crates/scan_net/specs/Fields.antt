-- What a header shows as numbers, the high byte first, and the texts of addresses that are numbers.
use Rattle.std.specs.Prelude.{ℕ, ◌+◌, ◌*◌, ◌/◌, ◌%◌, ◌^◌, List, [], ◌∷◌}
use Rattle.byte_kit.specs.Numbers.{be16, be32}
use Rattle.scan_net.specs.Packet.{Addresses, dotted, with_colons, header_size, total_size}
use Rattle.scan_net.specs.declared.TheConstants.{ETHER_SIZE}
use Rattle.scan_net.specs.declared.ipv4.Ipv4.{Ipv4}
use Rattle.scan_net.specs.declared.ether.Ether.{Ether}

-- six bytes from a place on as a number, the high one first
abbrev pub be48 : List ℕ → ℕ → ℕ
be48 bytes at = 2 ^ 32 * be16 bytes at + be32 bytes (at + 2)

-- a number below 2^32 as four bytes, the high one first
abbrev pub be32_bytes : ℕ → List ℕ
be32_bytes number = (number / 2 ^ 24 % 256) ∷ (number / 2 ^ 16 % 256) ∷ (number / 256 % 256) ∷ (number % 256) ∷ []

-- a number below 2^48 as six bytes, the high one first
abbrev pub be48_bytes : ℕ → List ℕ
be48_bytes number = (number / 2 ^ 40 % 256) ∷ (number / 2 ^ 32 % 256) ∷ be32_bytes number

-- the numbers of an IPv4 header at the front of the bytes
abbrev pub ipv4_fields : List ℕ → Ipv4
ipv4_fields bytes =
    record { header = header_size bytes; total = total_size bytes; from = be32 bytes 12; to = be32 bytes 16 }

-- the numbers of an Ethernet header at the front of the bytes
abbrev pub ether_fields : List ℕ → Ether
ether_fields bytes = record { to = be48 bytes 0; from = be48 bytes 6 }

-- the text of an IPv4 address
abbrev pub ip_text_of : ℕ → List ℕ
ip_text_of address = dotted (be32_bytes address)

-- the text of an Ethernet address
abbrev pub ether_text_of : ℕ → List ℕ
ether_text_of address = with_colons (be48_bytes address)

-- the texts of an IPv4 header's addresses, in their order, and its extent
abbrev pub ip_shown : Ipv4 → Addresses
ip_shown ip = record { first = ip_text_of ip.from; second = ip_text_of ip.to; extent = ip.header }

-- the texts of an Ethernet header's addresses, in their order, and its extent
abbrev pub ether_shown : Ether → Addresses
ether_shown ether = record { first = ether_text_of ether.to; second = ether_text_of ether.from; extent = ETHER_SIZE }
