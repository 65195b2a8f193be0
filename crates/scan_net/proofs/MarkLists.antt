-- The marks of a place, one by one.
use Rattle.std.proofs.Common.{◌≡◌, ◌∙◌, ℕ, List, ◌++◌, length, take, Option, Some, None, sym, ap, refl}
use Rattle.std.proofs.Math.Seq.{take-append_seam}
use Rattle.std.proofs.lemmas.List.{append_assoc}
use Rattle.forensic_path.specs.declared.feature.Kind.{Kind}
use Rattle.forensic_path.specs.declared.feature.Kind.TheVariants.{Ip, Ether}
use Rattle.sbuf_nest.specs.Around.{Around}
use Rattle.sbuf_nest.specs.Marks.{marked, AppendsFirst}
use Rattle.sbuf_nest.specs.declared.mark.Mark.{Mark}
use Rattle.scan_net.specs.Marks.{extent_of, address_marks, packet_marks}
use Rattle.scan_net.specs.Packet.{Addresses, ip_of, ether_of}

-- the marks of a header, by its extent
pub by_extent : (what : Kind) (place : ℕ) (found : Option Addresses) →
    address_marks what place found ≡ marked what 0 place (extent_of found) ++ marked what 1 place (extent_of found)
by_extent what place None = refl
by_extent what place (Some found) = refl

-- the marks of a place, by the extents of its headers
pub by_extents : (look : Around) (place : ℕ) (ip ether : Option ℕ) → ip ≡ extent_of (ip_of look) → ether ≡ extent_of (ether_of look) →
    packet_marks look place ≡ (marked Ip 0 place ip ++ marked Ip 1 place ip) ++ (marked Ether 0 place ether ++ marked Ether 1 place ether)
by_extents look place ip ether ip_is ether_is = rw (ip_is, ether_is, by_extent Ip place (ip_of look), by_extent Ether place (ether_of look)) refl

-- what was appended is a front of what was to be
pub front_appended : (old new front back all : List Mark) → new ≡ old ++ front → all ≡ front ++ back → AppendsFirst old new all
front_appended old new front back all new_is all_is =
    (length front, new_is ∙ ap (λ few. old ++ few) (sym (ap (take (length front)) all_is ∙ take-append_seam front back)))

-- the marks of the IPv4 header alone
pub two_appended : (old new a b c d all : List Mark) → new ≡ (old ++ a) ++ b → all ≡ (a ++ b) ++ (c ++ d) → AppendsFirst old new all
two_appended old new a b c d all new_is all_is = front_appended old new (a ++ b) (c ++ d) all (new_is ∙ append_assoc old a b) all_is

-- and one of those of the Ethernet header
pub three_appended : (old new a b c d all : List Mark) → new ≡ ((old ++ a) ++ b) ++ c → all ≡ (a ++ b) ++ (c ++ d) → AppendsFirst old new all
three_appended old new a b c d all new_is all_is =
    front_appended old new ((a ++ b) ++ c) d all
    (new_is ∙ ap (λ front. front ++ c) (append_assoc old a b) ∙ append_assoc old (a ++ b) c)
    (all_is ∙ sym (append_assoc (a ++ b) c d))
