-- What a search for packets appends.
use Rattle.std.specs.Prelude.{ℕ, List, [], ◌∷◌, ◌++◌, Option, Some, None}
use Rattle.forensic_path.specs.declared.feature.Kind.{Kind}
use Rattle.forensic_path.specs.declared.feature.Kind.TheVariants.{Ip, Ether}
use Rattle.sbuf_nest.specs.Around.{Around}
use Rattle.sbuf_nest.specs.declared.mark.Mark.{Mark}
use Rattle.scan_net.specs.Packet.{Addresses, ip_of, ether_of}

-- how many bytes a header has, if there is one
abbrev pub extent_of : Option Addresses → Option ℕ
extent_of None = None
extent_of (Some found) = Some found.extent

-- a header at the place has a mark for each of its two addresses, in their order
abbrev pub address_marks : Kind → ℕ → Option Addresses → List Mark
address_marks what place None = []
address_marks what place (Some found) =
    record { at = place; kind = what; which = 0; extent = found.extent }
    ∷ record { at = place; kind = what; which = 1; extent = found.extent } ∷ []

-- the marks of a place: those of its IPv4 header, then those of its Ethernet header
abbrev pub packet_marks : Around → ℕ → List Mark
packet_marks look place = address_marks Ip place (ip_of look) ++ address_marks Ether place (ether_of look)
