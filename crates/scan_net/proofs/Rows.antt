-- Worked examples of packets.
use Rattle.std.specs.Prelude.{ℕ, ◌≡◌, refl, true, false, List, [], ◌∷◌, ◌++◌, take, replicate, codes, Some, None}
use Rattle.std.specs.Fmt.{digits}
use Rattle.sbuf_nest.specs.Around.{look_at}
use Rattle.scan_net.specs.Packet.{add_words, begins_ipv4, ip_of, ether_of}

-- a header from 192.168.0.1 to 192.168.0.199 with this first byte, total length, time to live, protocol
-- and checksum
abbrev header : ℕ → ℕ → ℕ → ℕ → ℕ → ℕ → List ℕ
header version_and_words total ttl protocol high low =
    version_and_words ∷ 0 ∷ 0 ∷ total ∷ 0 ∷ 0 ∷ 0x40 ∷ 0 ∷ ttl ∷ protocol ∷ high ∷ low ∷ source_and_destination
  where
    source_and_destination : List ℕ
    source_and_destination = 0xc0 ∷ 0xa8 ∷ 0 ∷ 1 ∷ 0xc0 ∷ 0xa8 ∷ 0 ∷ 0xc7 ∷ []

-- a header of UDP, with a total length of 115 bytes
abbrev udp : List ℕ
udp = header 0x45 115 64 17 0xb8 0x61

-- ---- addresses

pub source_and_then_destination :
    ip_of (look_at udp 0)
    ≡ Some (record { first = codes "192.168.0.1"; second = codes "192.168.0.199"; extent = 20 })
unfolding ip_of begins_ipv4 look_at digits
source_and_then_destination = refl

pub wrong_checksum : ip_of (look_at (header 0x45 115 64 17 0xb8 0x62) 0) ≡ None
unfolding ip_of begins_ipv4 look_at digits
wrong_checksum = refl

-- from 02:00:00:00:ab:cd to 02:00:00:00:00:01
abbrev ethernet : ℕ → ℕ → List ℕ
ethernet type_high type_low = 2 ∷ 0 ∷ 0 ∷ 0 ∷ 0 ∷ 1 ∷ 2 ∷ 0 ∷ 0 ∷ 0 ∷ 0xab ∷ 0xcd ∷ type_high ∷ type_low ∷ []

pub destination_and_then_source :
    ether_of (look_at (ethernet 8 0 ++ udp) 0)
    ≡ Some (record { first = codes "02:00:00:00:00:01"; second = codes "02:00:00:00:ab:cd"; extent = 14 })
unfolding ether_of begins_ipv4 look_at
destination_and_then_source = refl

-- 0x0806 is ARP
pub other_ethernet_type : ether_of (look_at (ethernet 8 6 ++ udp) 0) ≡ None
unfolding ether_of begins_ipv4 look_at
other_ethernet_type = refl

pub ethernet_alone : ether_of (look_at (ethernet 8 0) 0) ≡ None
unfolding ether_of begins_ipv4 look_at
ethernet_alone = refl

pub ethernet_before_a_wrong_checksum :
    ether_of (look_at (ethernet 8 0 ++ header 0x45 115 64 17 0xb8 0x62) 0) ≡ None
unfolding ether_of begins_ipv4 look_at
ethernet_before_a_wrong_checksum = refl

-- ---- the parts of a header

-- a carry out of the high bit is added to the low one
pub carry_goes_around :
    (add_words 0xffff 1 ≡ 1) × (add_words 0xffff 0xffff ≡ 0xffff) × (add_words 0xf000 0x2345 ≡ 0x1346)
carry_goes_around = (refl, refl, refl)

pub last_byte_is_missing : begins_ipv4 (take 19 udp) ≡ false
unfolding begins_ipv4
last_byte_is_missing = refl

pub version_6 : begins_ipv4 (header 0x65 115 64 17 0x98 0x61) ≡ false
unfolding begins_ipv4
version_6 = refl

-- the checksum is right for 16 bytes
pub four_words : begins_ipv4 (header 0x44 115 64 17 0x7a 0xd1) ≡ false
unfolding begins_ipv4
four_words = refl

-- one word of options, which the checksum takes in
pub six_words : begins_ipv4 (header 0x46 24 64 17 0xb6 0xbb ++ 1 ∷ 1 ∷ 0 ∷ 0 ∷ []) ≡ true
unfolding begins_ipv4
six_words = refl

-- it is a zero, and the checksum is right without it
pub last_byte_of_the_options_is_missing : begins_ipv4 (header 0x46 24 64 17 0xb6 0xbb ++ 1 ∷ 1 ∷ 0 ∷ []) ≡ false
unfolding begins_ipv4
last_byte_of_the_options_is_missing = refl

pub fifteen_words : begins_ipv4 (header 0x4f 60 64 17 0x9a 0x84 ++ replicate 40 1) ≡ true
unfolding begins_ipv4
fifteen_words = refl

pub total_of_the_header_alone : begins_ipv4 (header 0x45 20 64 17 0xb8 0xc0) ≡ true
unfolding begins_ipv4
total_of_the_header_alone = refl

pub total_below_the_header : begins_ipv4 (header 0x45 19 64 17 0xb8 0xc1) ≡ false
unfolding begins_ipv4
total_below_the_header = refl

pub time_to_live_of_1 : begins_ipv4 (header 0x45 115 1 17 0xf7 0x61) ≡ true
unfolding begins_ipv4
time_to_live_of_1 = refl

pub time_to_live_of_0 : begins_ipv4 (header 0x45 115 0 17 0xf8 0x61) ≡ false
unfolding begins_ipv4
time_to_live_of_0 = refl

pub icmp : begins_ipv4 (header 0x45 115 64 1 0xb8 0x71) ≡ true
unfolding begins_ipv4
icmp = refl

pub tcp : begins_ipv4 (header 0x45 115 64 6 0xb8 0x6c) ≡ true
unfolding begins_ipv4
tcp = refl

-- protocol 2 is IGMP
pub other_protocol : begins_ipv4 (header 0x45 115 64 2 0xb8 0x70) ≡ false
unfolding begins_ipv4
other_protocol = refl

pub zeros_are_no_header : begins_ipv4 (replicate 64 0) ≡ false
unfolding begins_ipv4
zeros_are_no_header = refl
