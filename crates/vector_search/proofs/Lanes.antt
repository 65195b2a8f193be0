-- Vectors lane by lane: lane k of a vector is what a function says of the place at + k.
use Rattle.std.proofs.Common.{◌≡◌, ◌∙◌, ℕ, zero, suc, ◌+◌, ◌%◌, ◌^◌, ◌<◌, ◌≤◌, Bool, true, false, ◌&&◌, ◌||◌, cond, List, [], ◌∷◌, map, length, get_or, replicate, bit_and, bit_or, refl, sym, ap, arith, w8, Fits}
use Rattle.std.specs.List.{range_with_len}
use Rattle.std.proofs.lemmas.List.{length-map}
use Rattle.std.proofs.lemmas.List.FromFn.{length-range_with_len, length-map-range_with_len}
use Rattle.std.proofs.lemmas.Simd.{below_from_Fits, map-map, mask_l-mod, pick_l-range_with_len, splat_is_map, zip2_of_maps}
use lib.Lanes.{Each1, chunk, zip2, mask_l, top}
use Rattle.vector_search.specs.Places.{mask_of, bits_of}

-- each lane has all bits where its place passes the test, and none where it fails
abbrev pub IsMask : List ℕ → ℕ → (ℕ → Bool) → Type 0
IsMask v at test = v ≡ map (λ place. cond (test place) 255 0) (range_with_len at 16)

-- places so many further on
shifted : (f : ℕ → ℕ) (d at n : ℕ) → map f (range_with_len (at + d) n) ≡ map (λ place. f (place + d)) (range_with_len at n)
shifted f d at zero = refl
shifted f d at (suc n) =
    let e : at + d + 1 ≡ at + 1 + d = omega arith in
    ap (λ rest. f (at + d) ∷ rest) (ap (λ first. map f (range_with_len first n)) e ∙ shifted f d (at + 1) n)

-- the bytes of the places
pub loaded : (bytes : List ℕ) (at n : ℕ) → at + n ≤ length bytes →
    chunk at n bytes ≡ map (λ place. get_or bytes place 0) (range_with_len at n)
loaded bytes at n fits = sym (pick_l-range_with_len 0 bytes at n fits)

-- the bytes so many behind the places
pub loaded_behind : (bytes : List ℕ) (at d n : ℕ) → at + d + n ≤ length bytes →
    chunk (at + d) n bytes ≡ map (λ place. get_or bytes (place + d) 0) (range_with_len at n)
loaded_behind bytes at d n fits = loaded bytes (at + d) n fits ∙ shifted (λ place. get_or bytes place 0) d at n

-- the same number in each lane
pub splatted : (at n y : ℕ) → replicate n y ≡ map (λ _. y) (range_with_len at n)
splatted at n y = splat_is_map (range_with_len at n) n y (length-range_with_len at n)

-- a comparison of two vectors
pub compared : (t : ℕ → ℕ → Bool) (v w : List ℕ) (at : ℕ) (f g : ℕ → ℕ) →
    v ≡ map f (range_with_len at 16) → w ≡ map g (range_with_len at 16) →
    IsMask (zip2 (λ a b. cond (t a b) 255 0) v w) at (λ place. t (f place) (g place))
compared t v w at f g is_v is_w = zip2_of_maps (λ a b. cond (t a b) 255 0) f g (range_with_len at 16) is_v is_w

-- the same function by other words
same_map : {X : Type 0} (f g : ℕ → X) → ((place : ℕ) → f place ≡ g place) → (places : List ℕ) → map f places ≡ map g places
same_map f g same [] = refl
same_map f g same (place ∷ places) = ap (λ first. first ∷ map f places) (same place) ∙ ap (λ rest. g place ∷ rest) (same_map f g same places)

and_lanes : (a b : Bool) → bit_and (cond a 255 0) (cond b 255 0) ≡ cond (a && b) 255 0
and_lanes true true = refl
and_lanes true false = refl
and_lanes false true = refl
and_lanes false false = refl

or_lanes : (a b : Bool) → bit_or (cond a 255 0) (cond b 255 0) ≡ cond (a || b) 255 0
or_lanes true true = refl
or_lanes true false = refl
or_lanes false true = refl
or_lanes false false = refl

-- both of two masks
pub both : (v w : List ℕ) (at : ℕ) (p q : ℕ → Bool) → IsMask v at p → IsMask w at q →
    IsMask (zip2 bit_and v w) at (λ place. p place && q place)
both v w at p q is_p is_q =
    zip2_of_maps bit_and (λ place. cond (p place) 255 0) (λ place. cond (q place) 255 0) (range_with_len at 16) is_p is_q
    ∙ same_map _ _ (λ place. and_lanes (p place) (q place)) (range_with_len at 16)

-- either of two masks
pub either : (v w : List ℕ) (at : ℕ) (p q : ℕ → Bool) → IsMask v at p → IsMask w at q →
    IsMask (zip2 bit_or v w) at (λ place. p place || q place)
either v w at p q is_p is_q =
    zip2_of_maps bit_or (λ place. cond (p place) 255 0) (λ place. cond (q place) 255 0) (range_with_len at 16) is_p is_q
    ∙ same_map _ _ (λ place. or_lanes (p place) (q place)) (range_with_len at 16)

top_lane : (b : Bool) → top 7 (cond b 255 0) ≡ b
top_lane true = refl
top_lane false = refl

-- the bits of a mask, whose test may be said by other words
pub bits_of_mask : (v : List ℕ) (at : ℕ) (p test : ℕ → Bool) → IsMask v at p → ((place : ℕ) → p place ≡ test place) →
    mask_l (map (top 7) v) % 2 ^ 64 ≡ mask_of test at 16
unfolding mask_of
bits_of_mask v at p test is same =
    let tops : map (top 7) v ≡ map test (range_with_len at 16) =
    ap (map (top 7)) is ∙ map-map (top 7) (λ place. cond (p place) 255 0) (range_with_len at 16)
    ∙ same_map _ _ (λ place. top_lane (p place) ∙ same place) (range_with_len at 16) in
    ap (λ bits. mask_l bits % 2 ^ 64) tops
    ∙ mask_l-mod (map test (range_with_len at 16)) 64 (omega (arith, length-map-range_with_len test at 16))

-- ---- by bytes

-- the same function of bytes by other words
pub same_of_bytes : {X : Type 0} (f g : ℕ → X) → ((byte : ℕ) → byte < 256 → f byte ≡ g byte) →
    (bytes : List ℕ) → Each1 (λ byte. byte < 256) bytes → map f bytes ≡ map g bytes
same_of_bytes f g same [] small = refl
same_of_bytes f g same (byte ∷ bytes) small =
    ap (λ first. first ∷ map f bytes) (same byte small.0) ∙ ap (λ rest. g byte ∷ rest) (same_of_bytes f g same bytes small.1)

-- the bits of the bytes that pass, which may be said by other words
pub bits_alike : (p test : ℕ → Bool) (bytes : List ℕ) → Each1 (Fits w8) bytes → ((byte : ℕ) → byte < 256 → p byte ≡ test byte) →
    bits_of p bytes ≡ bits_of test bytes
unfolding bits_of
bits_alike p test bytes small same = ap mask_l (same_of_bytes p test same bytes (below_from_Fits w8 bytes small))

-- the bits of a mask whose lanes are told by sixteen bytes
pub bits_of_bytes : (v bytes : List ℕ) (p : ℕ → Bool) → length bytes ≡ 16 → v ≡ map (λ byte. cond (p byte) 255 0) bytes →
    mask_l (map (top 7) v) % 2 ^ 64 ≡ bits_of p bytes
unfolding bits_of
bits_of_bytes v bytes p long is =
    let tops : map (top 7) v ≡ map p bytes =
    ap (map (top 7)) is ∙ map-map (top 7) (λ byte. cond (p byte) 255 0) bytes ∙ same_map _ _ (λ byte. top_lane (p byte)) bytes in
    ap (λ bits. mask_l bits % 2 ^ 64) tops ∙ mask_l-mod (map p bytes) 64 (omega (arith, length-map bytes p, long))

-- the bits of the bytes of sixteen places
pub bits_of_places : (test : ℕ → Bool) (bytes : List ℕ) (at : ℕ) → at + 16 ≤ length bytes →
    bits_of test (chunk at 16 bytes) ≡ mask_of (λ place. test (get_or bytes place 0)) at 16
unfolding bits_of mask_of
bits_of_places test bytes at fits =
    ap (bits_of test) (loaded bytes at 16 fits) ∙ ap mask_l (map-map test (λ place. get_or bytes place 0) (range_with_len at 16))
