use Rattle.std.proofs.Common.{◌≡◌, ℕ, ◌+◌, ◌-◌, ◌%◌, ◌^◌, ◌<◌, ◌==◌, ◌&&◌, ◌||◌, Bool, true, false, leb, get_or, refl, arith}
use Rattle.std.specs.List.{range_with_len}
use Rattle.std.proofs.lemmas.Bool.{agree_below_at}
use Rattle.std.proofs.lemmas.Simd.{zip2_of_maps}
use Rattle.byte_kit.specs.Classes.{is_one_of}
use Rattle.scan_net.specs.Filter.{begins_version_4, may_begin_ipv4}
use Rattle.scan_net.specs.Packet.{known_protocols}
use Rattle.vector_search.proofs.Lanes.{loaded, loaded_behind, splatted, compared, both, either, bits_of_mask}
use Rattle.scan_net.proofs.filter.HeaderTestPlaceTest.mask.Goals as goal

-- `-` of two vectors
abbrev less : ℕ → ℕ → ℕ
less x y = (x + (2 ^ 8 - y)) % 2 ^ 8

-- what the vector's test says of a byte
version_found : (first : ℕ) → first < 256 → leb (less first 0x45) 10 ≡ begins_version_4 first
version_found first small = agree_below_at (λ byte. leb (less byte 0x45) 10) begins_version_4 256 first refl small

or_none : (a b c : Bool) → (a || b || c) ≡ (a || (b || (c || false)))
or_none true b c = refl
or_none false true c = refl
or_none false false true = refl
or_none false false false = refl

known_found : (protocol : ℕ) → ((protocol == 1) || (protocol == 6) || (protocol == 17)) ≡ is_one_of known_protocols protocol
known_found protocol = or_none (protocol == 1) (protocol == 6) (protocol == 17)

same_tests : {a b c d : Bool} → a ≡ c → b ≡ d → (a && b) ≡ (c && d)
same_tests p q = cc

pub returns : goal.returns
unfolding may_begin_ipv4
returns c =
    let bytes = c.args.bytes.now in
    let at = c.args.at in
    let first : ℕ → ℕ = λ place. get_or bytes place 0 in
    let protocol : ℕ → ℕ = λ place. get_or bytes (place + 9) 0 in
    let equal : ℕ → ℕ → Bool = λ x y. x == y in
    let begins : ℕ → Bool = λ place. leb (less (first place) 0x45) 10 in
    let icmp : ℕ → Bool = λ place. protocol place == 1 in
    let tcp : ℕ → Bool = λ place. protocol place == 6 in
    let udp : ℕ → Bool = λ place. protocol place == 17 in
    let loaded_first = loaded bytes at 16 (omega (arith, c.requires)) in
    let loaded_protocol = loaded_behind bytes at 9 16 (omega (arith, c.requires)) in
    let is_less = zip2_of_maps less first (λ (_ : ℕ). 0x45) (range_with_len at 16) loaded_first (splatted at 16 0x45) in
    let is_icmp = compared equal _ _ at protocol (λ _. 1) loaded_protocol (splatted at 16 1) in
    let is_tcp = compared equal _ _ at protocol (λ _. 6) loaded_protocol (splatted at 16 6) in
    let is_udp = compared equal _ _ at protocol (λ _. 17) loaded_protocol (splatted at 16 17) in
    let icmp_or_tcp : ℕ → Bool = λ place. icmp place || tcp place in
    let known : ℕ → Bool = λ place. icmp_or_tcp place || udp place in
    bits_of_mask _ at (λ place. begins place && known place) (may_begin_ipv4 bytes)
    (both _ _ at begins known
    (compared leb _ _ at (λ place. less (first place) 0x45) (λ _. 10) is_less (splatted at 16 10))
    (either _ _ at icmp_or_tcp udp (either _ _ at icmp tcp is_icmp is_tcp) is_udp))
    (λ place. same_tests (version_found (first place) (c.type_inv.bytes place).fits) (known_found (protocol place)))
