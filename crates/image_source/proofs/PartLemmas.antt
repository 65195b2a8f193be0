-- Parts one behind the other: how many bytes they have, where each stands in the image, and what one more changes.
use Rattle.std.proofs.Common.{◌≡◌, ◌∙◌, ℕ, zero, suc, ◌+◌, ◌-◌, ◌*◌, ◌^◌, ◌<◌, ◌≤◌, List, [], ◌∷◌, ◌++◌, length, map, get_or, take, drop, Option, Some, None, IfSome, sym, refl, ap, arith, append_assoc}
use Rattle.std.specs.Prelude.{option_and_then, option_map}
use Rattle.std.specs.List.{All}
use Rattle.std.proofs.lemmas.List.{take_at, drop_at, drop-drop, length-take, length-take-le, length-append, length-map, get_or-map, map-append, take_more}
use Rattle.std.proofs.lemmas.List.Sums.{sum_by-cons, sum_by-le, sum_by_more, sum_by-take-le}
use Rattle.std.proofs.lemmas.Option.{none-some, same_Some, slice_get-get_or, slice_get_past, gets}
use Rattle.std.proofs.lemmas.Grind.{common_steps}
use Rattle.byte_kit.specs.Places.{put}
use Rattle.std.proofs.lemmas.List.Elements.{All-push}
use Rattle.host_source.specs.Source.{SourceNature, Slot, told, Attaches, IsWithin, Reads}
use Rattle.image_source.specs.Image.{joined, size_of, AreAttached, IsAttachedBelow, IsPart}
use Rattle.image_source.specs.declared.attach.Part.{Part}
use Rattle.image_source.specs.Inside.{slot_of, slots_of}
use Rattle.image_source.proofs.Lists.{take_sum, piece_within}

-- two told contents, one behind the other
split_told : (first rest : Option (List ℕ)) (image : List ℕ) →
    option_and_then (λ (bytes : List ℕ). option_map (λ (more : List ℕ). bytes ++ more) rest) first ≡ Some image →
    (bytes : List ℕ) × (more : List ℕ) × (first ≡ Some bytes) × (rest ≡ Some more) × (bytes ++ more ≡ image)
split_told None rest image is = absurd (none-some image is)
split_told (Some bytes) None image is = absurd (none-some image is)
split_told (Some bytes) (Some more) image is = (bytes, more, refl, refl, same_Some _ _ is)

-- the parts behind the first one
rest_of : (nature : SourceNature) (part : Slot) (parts : List Slot) → All (IsPart nature) (part ∷ parts) → All (IsPart nature) parts
rest_of nature part parts all k d lt = all (suc k) d (omega arith)

-- a told content has the size of its part
told_size : (nature : SourceNature) (part : Slot) (bytes : List ℕ) → IsPart nature part → told nature part.name ≡ Some bytes → part.size ≡ length bytes
told_size nature part bytes is found = rw found at is.told

-- the bytes of the parts are as many as the parts have together
pub joined_length : (nature : SourceNature) (parts : List Slot) (image : List ℕ) → All (IsPart nature) parts →
    joined nature parts ≡ Some image → size_of parts ≡ length image
unfolding joined
joined_length nature [] image all is = let e : [] ≡ image = same_Some _ _ is in ap length e
joined_length nature (part ∷ parts) image all is =
    let s = split_told (told nature part.name) (joined nature parts) image is in
    let here : part.size ≡ length s.0 = told_size nature part s.0 (all 0 part (omega arith)) s.2 in
    let behind : size_of parts ≡ length s.1 = joined_length nature parts s.1 (rest_of nature part parts all) s.3 in
    let sum : size_of (part ∷ parts) ≡ part.size + size_of parts = sum_by-cons (λ (p : Slot). p.size) part parts in
    let long : length image ≡ length s.0 + length s.1 = ap length (sym s.4) ∙ length-append s.0 s.1 in
    omega (arith, here, behind, sum, long)

-- a part's bytes stand in the image behind those of the parts ahead of it
pub part_at : (nature : SourceNature) (parts : List Slot) (k : ℕ) (d : Slot) (image : List ℕ) → All (IsPart nature) parts →
    joined nature parts ≡ Some image → k < length parts →
    told nature (get_or parts k d).name ≡ Some (take (get_or parts k d).size (drop (size_of (take k parts)) image))
unfolding joined
part_at nature [] k d image all is lt = absurd (omega arith)
part_at nature (part ∷ parts) zero d image all is lt =
    let s = split_told (told nature part.name) (joined nature parts) image is in
    let here : part.size ≡ length s.0 = told_size nature part s.0 (all 0 part (omega arith)) s.2 in
    let front : take part.size image ≡ s.0 = ap (take part.size) (sym s.4) ∙ take_at s.0 s.1 part.size (sym here) in
    s.2 ∙ ap Some (sym front)
part_at nature (part ∷ parts) (suc k) d image all is lt =
    let s = split_told (told nature part.name) (joined nature parts) image is in
    let here : part.size ≡ length s.0 = told_size nature part s.0 (all 0 part (omega arith)) s.2 in
    let found = part_at nature parts k d s.1 (rest_of nature part parts all) s.3 (omega arith) in
    let sum : size_of (part ∷ take k parts) ≡ part.size + size_of (take k parts) = sum_by-cons (λ (p : Slot). p.size) part (take k parts) in
    let behind : drop part.size image ≡ s.1 = ap (drop part.size) (sym s.4) ∙ drop_at s.0 s.1 part.size (sym here) in
    let moved : drop (size_of (part ∷ take k parts)) image ≡ drop (size_of (take k parts)) s.1 =
    ap (λ n. drop n image) sum ∙ sym (drop-drop (size_of (take k parts)) part.size image) ∙ ap (drop (size_of (take k parts))) behind in
    found ∙ ap (λ bytes. Some (take (get_or parts k d).size bytes)) (sym moved)

-- so many parts of so many bytes have fewer than 2^63 bytes
pub parts_small : (nature : SourceNature) (parts : List Slot) → All (IsPart nature) parts → length parts ≤ 64 → size_of parts < 2 ^ 63
parts_small nature parts all few =
    let most : size_of parts ≤ length parts * (2 ^ 57 - 1) =
    sum_by-le (λ (p : Slot). p.size) (2 ^ 57 - 1) parts (λ k d lt. let small = (all k d lt).small in omega (arith, small)) in
    omega (arith, most, few)

-- a read of one part puts the image's bytes behind those that stand there
pub read_more : (nature : SourceNature) (parts : List Slot) (k : ℕ) (d : Slot) (at done count begin : ℕ) (old here behind new : List ℕ) →
    All (IsPart nature) parts → k < length parts → begin ≡ size_of (take k parts) → begin ≤ at + done →
    at + done + count ≤ begin + (get_or parts k d).size → length here ≡ count → done ≤ length old →
    IfSome (told nature (get_or parts k d).name) (λ piece. here ≡ take (length here) (drop (at + done - begin) piece)) →
    new ≡ take done old ++ (here ++ behind) →
    IfSome (joined nature parts) (λ image. take done old ≡ take done (drop at image)) →
    IfSome (joined nature parts) (λ image. take (done + count) new ≡ take (done + count) (drop at image))
read_more nature parts k d at done count begin old here behind new all lt starts low high long room reads is before =
    each (joined nature parts) refl before
  where
    each : (told_image : Option (List ℕ)) → joined nature parts ≡ told_image →
        IfSome told_image (λ image. take done old ≡ take done (drop at image)) →
        IfSome told_image (λ image. take (done + count) new ≡ take (done + count) (drop at image))
    each None none front = tt
    each (Some image) some front =
        let size = (get_or parts k d).size in
        let found : told nature (get_or parts k d).name ≡ Some (take size (drop begin image)) =
        rw starts (part_at nature parts k d image all some lt) in
        let read : here ≡ take (length here) (drop (at + done - begin) (take size (drop begin image))) = rw found at reads in
        let piece : here ≡ take count (drop (at + done) image) =
        read ∙ ap (λ n. take n (drop (at + done - begin) (take size (drop begin image)))) long
        ∙ piece_within image begin size (at + done) count low high in
        let fits : length (take done old ++ here) ≡ done + count =
        length-append (take done old) here ∙ ap (λ n. n + length here) (length-take-le done old room) ∙ ap (λ n. done + n) long in
        let filled : take (done + count) new ≡ take done old ++ here =
        ap (take (done + count)) (is ∙ sym (append_assoc (take done old) here behind))
        ∙ take_at (take done old ++ here) behind (done + count) fits in
        let ahead : take count (drop done (drop at image)) ≡ take count (drop (at + done) image) =
        ap (take count) (drop-drop done at image) in
        filled ∙ ap (λ bytes. bytes ++ here) front ∙ ap (λ bytes. take done (drop at image) ++ bytes) (piece ∙ sym ahead)
        ∙ sym (take_sum done count (drop at image))

-- one part more, attached to the next slot
pub attached_more : (old new : ℕ → Option Slot) (parts : List Slot) (part : Slot) → AreAttached old parts →
    new ≡ put old (length parts) (Some part) → AreAttached new (parts ++ part ∷ [])
attached_more old new parts part so_far is slot =
    ap (λ (slots : ℕ → Option Slot). slots slot) is ∙ grind (arith, common_steps, gets, so_far)

-- a part's bytes as a slot's
pub slot_told : (nature : SourceNature) (slots : ℕ → Option Slot) (parts : List Slot) (slot from : ℕ) (d : Slot) (read : List ℕ) →
    AreAttached slots parts → slot < length parts → Reads nature slots slot from read →
    IfSome (told nature (get_or parts slot d).name) (λ piece. read ≡ take (length read) (drop from piece))
slot_told nature slots parts slot from d read so_far lt reads =
    let here : slots slot ≡ Some (get_or parts slot d) = so_far slot ∙ slice_get-get_or parts slot d lt in
    rw here at reads

-- a place within a part is one within its slot
pub slot_within : (slots : ℕ → Option Slot) (parts : List Slot) (slot at count : ℕ) (d : Slot) →
    AreAttached slots parts → slot < length parts → at + count ≤ (get_or parts slot d).size → IsWithin slots slot at count
slot_within slots parts slot at count d so_far lt fits =
    let here : slots slot ≡ Some (get_or parts slot d) = so_far slot ∙ slice_get-get_or parts slot d lt in
    rw here fits

-- a part's size, and that of the parts up to it
pub size_at : (parts : List Part) (k : ℕ) (d : Part) → k < length parts → (get_or (slots_of parts) k (slot_of d)).size ≡ (get_or parts k d).size
size_at parts k d lt = ap (λ (slot : Slot). slot.size) (get_or-map slot_of parts k d (slot_of d) lt)

pub size_more : (parts : List Part) (k : ℕ) (d : Part) → k < length parts →
    size_of (take (k + 1) (slots_of parts)) ≡ size_of (take k (slots_of parts)) + (get_or parts k d).size
size_more parts k d lt =
    let below : k < length (slots_of parts) = rw (length-map parts slot_of) lt in
    sum_by_more (λ (slot : Slot). slot.size) (slots_of parts) k (slot_of d) below
    ∙ ap (λ n. size_of (take k (slots_of parts)) + n) (size_at parts k d lt)

-- it is not above that of all
pub size_most : (parts : List Part) (k : ℕ) (d : Part) → k < length parts →
    size_of (take k (slots_of parts)) + (get_or parts k d).size ≤ size_of (slots_of parts)
size_most parts k d lt =
    let more = size_more parts k d lt in
    let most = sum_by-take-le (λ (slot : Slot). slot.size) (slots_of parts) (k + 1) in
    omega (arith, more, most)

-- one part more: what is attached, the parts' names, and that their sizes are what the source tells
pub attached_push : (old new : ℕ → Option Slot) (parts : List Part) (part : Part) (slot : ℕ) (name : List ℕ) → AreAttached old (slots_of parts) →
    slot ≡ length parts → part.name ≡ name → new ≡ put old slot (Some (record { name = name; size = part.size })) →
    AreAttached new (slots_of (parts ++ part ∷ []))
attached_push old new parts part slot name so_far at named is =
    let here : new ≡ put old (length (slots_of parts)) (Some (slot_of part)) = rw (length-map parts slot_of, ← at, named) is in
    rw (map-append slot_of parts (part ∷ [])) (attached_more old new (slots_of parts) (slot_of part) so_far here)

-- no slot behind so many is attached, where the parts are no more
pub attached_below : (slots : ℕ → Option Slot) (parts : List Part) (count : ℕ) → AreAttached slots (slots_of parts) → length parts ≤ count →
    IsAttachedBelow count slots
attached_below slots parts count attached few = λ slot past.
    let long = length-map parts slot_of in
    attached slot ∙ slice_get_past (slots_of parts) slot (omega (arith, long, few, past))

-- .. and parts whose names are a front of a list are no more than that
pub named_few : (parts : List Part) (names : List (List ℕ)) (i : ℕ) → map (λ (p : Part). p.name) parts ≡ take i names → length parts ≤ length names
named_few parts names i named =
    let long = length-map parts (λ (p : Part). p.name) in
    let front = length-take i names in
    omega (arith, long, front, ap length named)

pub named_push : (parts : List Part) (part : Part) (names : List (List ℕ)) (i : ℕ) (d : List ℕ) → i < length names →
    map (λ (p : Part). p.name) parts ≡ take i names → part.name ≡ get_or names i d →
    map (λ (p : Part). p.name) (parts ++ part ∷ []) ≡ take (i + 1) names
named_push parts part names i d lt so_far is =
    map-append (λ (p : Part). p.name) parts (part ∷ []) ∙ ap (λ front. front ++ part.name ∷ []) so_far
    ∙ ap (λ name. take i names ++ name ∷ []) is ∙ sym (take_more names i d lt)

pub is_part : (nature now : SourceNature) (old new : ℕ → Option Slot) (slot : ℕ) (name : List ℕ) (part : Part) → now ≡ nature →
    part.name ≡ name → Attaches now old new slot name part.size → IsPart nature (slot_of part)
is_part nature now old new slot name part same named attached =
    record { small = attached.small; told = rw (← same, named) attached.told }

pub all_push : (nature : SourceNature) (parts : List Part) (part : Part) → All (IsPart nature) (slots_of parts) → IsPart nature (slot_of part) →
    All (IsPart nature) (slots_of (parts ++ part ∷ []))
all_push nature parts part all is = rw (map-append slot_of parts (part ∷ [])) (All-push (IsPart nature) (slots_of parts) (slot_of part) all is)

-- the names of what is attached are those of the parts
pub slot_names : (parts : List Part) → map (λ (slot : Slot). slot.name) (slots_of parts) ≡ map (λ (p : Part). p.name) parts
slot_names [] = refl
slot_names (part ∷ parts) = ap (λ rest. part.name ∷ rest) (slot_names parts)

-- the parts have fewer than 2^63 bytes, which are as many as the image's
pub inside_small : (nature : SourceNature) (parts : List Part) → All (IsPart nature) (slots_of parts) → length parts ≤ 64 → size_of (slots_of parts) < 2 ^ 63
inside_small nature parts all few = parts_small nature (slots_of parts) all (rw (length-map parts slot_of) few)

pub inside_told : (nature : SourceNature) (parts : List Slot) (size : ℕ) → All (IsPart nature) parts → size ≡ size_of parts →
    IfSome (joined nature parts) (λ bytes. size ≡ length bytes)
inside_told nature parts size all sum = each (joined nature parts) refl
  where
    each : (told_image : Option (List ℕ)) → joined nature parts ≡ told_image → IfSome told_image (λ bytes. size ≡ length bytes)
    each None none = tt
    each (Some bytes) some = sum ∙ joined_length nature parts bytes all some
