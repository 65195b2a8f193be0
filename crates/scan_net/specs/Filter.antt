-- Where a search looks closer.
use Rattle.std.specs.Prelude.{ℕ, ◌+◌, ◌&&◌, Bool, List, drop, slice_index}
use Rattle.byte_kit.specs.Classes.{in_range, is_one_of}
use Rattle.scan_net.specs.Packet.{known_protocols, begins_ipv4}

-- version 4, and 5 to 15 words
abbrev pub begins_version_4 : ℕ → Bool
begins_version_4 first = in_range 0x45 0x4f first

-- the bytes from the place on have the first byte and the protocol of an IPv4 header
unfoldable pub may_begin_ipv4 : List ℕ → ℕ → Bool
may_begin_ipv4 bytes place =
    begins_version_4 (slice_index bytes place) && is_one_of known_protocols (slice_index bytes (place + 9))

-- a whole IPv4 header begins at the place
abbrev pub has_ipv4 : List ℕ → ℕ → Bool
has_ipv4 bytes place = begins_ipv4 (drop place bytes)
