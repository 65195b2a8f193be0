-- A place with a packet has a header that the search looks for, at the place itself or behind its Ethernet header,
-- and a header has a place that passes the test.
use Rattle.std.proofs.Common.{◌≡◌, ◌∙◌, ℕ, ◌+◌, ◌-◌, ◌*◌, ◌/◌, ◌%◌, ◌<◌, ◌≤◌, Bool, true, false, ◌&&◌, List, [], length, min, max, take, drop, inl, inr, sym, ap, refl, arith}
use Rattle.std.specs.Prelude.{slice_index, nat_le, ◌==◌}
use Rattle.std.proofs.lemmas.Bool.{eqb-true, leb-true, le-leb, false≢true, cases_lt}
use Rattle.std.specs.Cmp.Derive.{both_true}
use Rattle.std.proofs.lemmas.Bool.{false_from_ne_true}
use Rattle.std.proofs.lemmas.Bool.Decides.{nat_tests}
use Rattle.std.proofs.Math.Bool.{and-false}
use Rattle.std.proofs.lemmas.List.{get_or-take, get_or-drop, length-take, take-take, drop-take, drop-drop}
use Rattle.std.proofs.Math.ListN.{drop_of_length-le}
use Rattle.byte_kit.specs.Classes.{is_one_of}
use Rattle.sbuf_nest.specs.Around.{Around, look_at}
use Rattle.sbuf_nest.specs.Marks.{NoneFrom}
use Rattle.sbuf_nest.specs.declared.look.TheConstants.{LOOK_AFTER}
use Rattle.scan_net.specs.declared.TheConstants.{ETHER_SIZE}
use Rattle.scan_net.specs.Filter.{begins_version_4, may_begin_ipv4, has_ipv4}
use Rattle.scan_net.specs.Marks.{packet_marks}
use Rattle.vector_search.specs.Places.{NoneIn}
use Rattle.scan_net.specs.Packet.{known_protocols, header_size, total_size, has_checksum, begins_ipv4, ip_of, ether_of}

-- a first byte of version 4 with at least 5 words
version_4 : (first : ℕ) → first / 16 ≡ 4 → 20 ≤ 4 * (first % 16) → begins_version_4 first ≡ true
version_4 first version words =
    let low : 0x45 ≤ first = omega arith in
    let high : first ≤ 0x4f = omega arith in
    grind (arith, nat_tests)

-- the parts of what is asked of a header
each_of : (version least there total ttl protocol sum : Bool) → (version && least && there && total && ttl && protocol && sum) ≡ true
    → (version ≡ true) × (least ≡ true) × (there ≡ true) × (total ≡ true) × (ttl ≡ true) × (protocol ≡ true) × (sum ≡ true)
each_of true true true true true true true h = (refl, refl, refl, refl, refl, refl, refl)
each_of false least there total ttl protocol sum h = cc
each_of true false there total ttl protocol sum h = cc
each_of true true false total ttl protocol sum h = cc
each_of true true true false ttl protocol sum h = cc
each_of true true true true false protocol sum h = cc
each_of true true true true true false sum h = cc
each_of true true true true true true false h = cc

-- the bytes that a header begins with
front : (bytes : List ℕ) → begins_ipv4 bytes ≡ true →
    (begins_version_4 (slice_index bytes 0) ≡ true) × (is_one_of known_protocols (slice_index bytes 9) ≡ true)
unfolding begins_ipv4
front bytes begins =
    let parts = each_of _ _ _ _ _ _ _ begins in
    (version_4 (slice_index bytes 0) (eqb-true _ _ parts.0) (leb-true _ _ parts.1), parts.5)

no_header_in_none : begins_ipv4 [] ≡ false
unfolding begins_ipv4
no_header_in_none = refl

-- no header begins bytes whose first and tenth stand at a place that fails the test
no_front : (bytes look : List ℕ) (place : ℕ) → slice_index look 0 ≡ slice_index bytes place → slice_index look 9 ≡ slice_index bytes (place + 9)
    → may_begin_ipv4 bytes place ≡ false → begins_ipv4 look ≡ false
unfolding may_begin_ipv4
no_front bytes look place first tenth fails =
    false_from_ne_true (begins_ipv4 look) (λ begins.
    let parts = front look begins in
    let version : begins_version_4 (slice_index bytes place) ≡ true = ap begins_version_4 (sym first) ∙ parts.0 in
    let known : is_one_of known_protocols (slice_index bytes (place + 9)) ≡ true = ap (is_one_of known_protocols) (sym tenth) ∙ parts.1 in
    false≢true (sym fails ∙ both_true version known))

-- no header begins at a place that fails the test
pub not_here : (bytes : List ℕ) (place : ℕ) → may_begin_ipv4 bytes place ≡ false → has_ipv4 bytes place ≡ false
not_here bytes place fails =
    let at : place + 0 ≡ place = omega arith in
    no_front bytes (drop place bytes) place (get_or-drop place bytes 0 0 ∙ ap (slice_index bytes) at) (get_or-drop place bytes 9 0) fails

all_true : {a b c d e f g : Bool} → a ≡ true → b ≡ true → c ≡ true → d ≡ true → e ≡ true → f ≡ true → g ≡ true → (a && b && c && d && e && f && g) ≡ true
all_true a b c d e f g = rw (a, b, c, d, e, f, g) refl

-- a header that begins some of the bytes begins all of them
begins_more : (most : ℕ) (bytes : List ℕ) → begins_ipv4 (take most bytes) ≡ true → begins_ipv4 bytes ≡ true
unfolding begins_ipv4
begins_more most bytes begins =
    let some = take most bytes in
    let parts = each_of _ _ _ _ _ _ _ begins in
    let least = leb-true 20 (header_size some) parts.1 in
    let there = leb-true (header_size some) (length some) parts.2 in
    let long = length-take most bytes in
    let same : (k : ℕ) → k < 20 → slice_index some k ≡ slice_index bytes k = λ k near. get_or-take most bytes k 0 (omega (arith, near, least, there, long)) in
    let size : header_size some ≡ header_size bytes = ap (λ first. 4 * (first % 16)) (same 0 (omega arith)) in
    let total : total_size some ≡ total_size bytes = ap (λ high. 256 * high + slice_index some 3) (same 2 (omega arith)) ∙ ap (λ low. 256 * slice_index bytes 2 + low) (same 3 (omega arith)) in
    let header : take (header_size some) some ≡ take (header_size bytes) bytes =
    take-take (header_size some) most bytes (omega (arith, there, long)) ∙ ap (λ size. take size bytes) size in
    all_true
    (ap (λ first. first / 16 == 4) (sym (same 0 (omega arith))) ∙ parts.0)
    (ap (λ n. nat_le 20 n) (sym size) ∙ parts.1)
    (le-leb (header_size bytes) (length bytes) (omega (arith, size, there, long)))
    (ap (λ n. nat_le n (total_size bytes)) (sym size) ∙ ap (λ n. nat_le (header_size some) n) (sym total) ∙ parts.3)
    (ap (λ ttl. nat_le 1 ttl) (sym (same 8 (omega arith))) ∙ parts.4)
    (ap (is_one_of known_protocols) (sym (same 9 (omega arith))) ∙ parts.5)
    (ap has_checksum (sym header) ∙ parts.6)

-- no IPv4 header begins at a place by what it sees, where none does by all bytes
no_ipv4 : (most place : ℕ) (bytes : List ℕ) → has_ipv4 bytes place ≡ false → begins_ipv4 (take most (drop place bytes)) ≡ false
no_ipv4 most place bytes fails =
    false_from_ne_true (begins_ipv4 (take most (drop place bytes))) (λ begins. false≢true (sym fails ∙ begins_more most (drop place bytes) begins))

-- nor behind an Ethernet header, where none does there
no_ipv4_behind : (most place behind : ℕ) (bytes : List ℕ) → has_ipv4 bytes (place + behind) ≡ false
    → begins_ipv4 (drop behind (take (behind + most) (drop place bytes))) ≡ false
no_ipv4_behind most place behind bytes fails =
    ap begins_ipv4 (drop-take behind most (drop place bytes) ∙ ap (take most) (drop-drop behind place bytes)) ∙ no_ipv4 most (place + behind) bytes fails

no_marks : (look : Around) (place : ℕ) → begins_ipv4 look.after ≡ false → begins_ipv4 (drop ETHER_SIZE look.after) ≡ false
    → packet_marks look place ≡ []
unfolding ip_of ether_of
no_marks look place ip ether = rw ip (rw ether (rw and-false refl))

-- a place has no mark where none begins at it and at the place behind an Ethernet header
pub unmarked : (bytes : List ℕ) (place : ℕ) → has_ipv4 bytes place ≡ false → has_ipv4 bytes (place + ETHER_SIZE) ≡ false
    → packet_marks (look_at bytes place) place ≡ []
unfolding look_at
unmarked bytes place here behind =
    no_marks (look_at bytes place) place (no_ipv4 LOOK_AFTER place bytes here) (no_ipv4_behind (LOOK_AFTER - ETHER_SIZE) place ETHER_SIZE bytes behind)

-- no header begins behind the end
pub none_past : (bytes : List ℕ) (place : ℕ) → length bytes ≤ place → has_ipv4 bytes place ≡ false
none_past bytes place past = ap begins_ipv4 (drop_of_length-le bytes past) ∙ no_header_in_none

-- none of the owned places has a mark where no header begins at one of them, nor at one of those that end them
pub none_owned : (bytes : List ℕ) (next own_to end : ℕ) → end ≡ min (own_to + ETHER_SIZE) (length bytes) → NoneIn (has_ipv4 bytes) next end
    → NoneFrom packet_marks bytes next own_to
none_owned bytes next own_to end is none place low high =
    let behind : has_ipv4 bytes (place + ETHER_SIZE) ≡ false =
    elim (cases_lt (place + ETHER_SIZE) end)
    [ inl below ↦ none (place + ETHER_SIZE) (omega arith) below | inr above ↦ none_past bytes (place + ETHER_SIZE) (omega arith) ] in
    elim (cases_lt place end)
    [ inl below ↦ unmarked bytes place (none place low below) behind | inr above ↦ unmarked bytes place (none_past bytes place (omega arith)) behind ]

-- nor does a place that is further ahead of the first header than an Ethernet header has bytes
pub none_ahead : (bytes : List ℕ) (next header from : ℕ) → from ≤ max next (header - ETHER_SIZE) → NoneIn (has_ipv4 bytes) next header
    → NoneFrom packet_marks bytes next from
none_ahead bytes next header from near none place low high =
    unmarked bytes place (none place low (omega arith)) (none (place + ETHER_SIZE) (omega arith) (omega arith))

-- ---- the search for headers

-- places that fail the test have none
pub none_by_test : (bytes : List ℕ) (first end : ℕ) → NoneIn (may_begin_ipv4 bytes) first end → NoneIn (has_ipv4 bytes) first end
none_by_test bytes first end none place low high = not_here bytes place (none place low high)

-- a place that passes and has none, and those behind it that fail
pub none_further : (bytes : List ℕ) (first at end : ℕ) → NoneIn (has_ipv4 bytes) first at → has_ipv4 bytes at ≡ false
    → NoneIn (may_begin_ipv4 bytes) (at + 1) end → NoneIn (has_ipv4 bytes) first end
none_further bytes first at end ahead here behind place low high = elim (cases_lt place at) [
  | inl below ↦ ahead place low below
  | inr above ↦ (elim (cases_lt at place) [
    | inl further ↦ not_here bytes place (behind place (omega (arith, further)) high)
    | inr same ↦ (let e : at ≡ place = omega (arith, same, above) in ap (has_ipv4 bytes) (sym e) ∙ here)
  ])
]
