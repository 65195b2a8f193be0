-- How far the bytes of places stand behind the first byte of a word, lane by lane.
use Rattle.std.proofs.Common.{◌≡◌, ◌∙◌, ℕ, true, false, cond, [], ◌∷◌, zero, suc, ◌+◌, ◌<◌, ◌≤◌, Bool, ◌&&◌, leb, ltb, not, List, map, length, take, drop, get_or, refl, sym, ap, arith}
use Rattle.std.specs.List.{range_with_len}
use Rattle.std.proofs.lemmas.Bool.{agree_below_at}
use Rattle.std.proofs.lemmas.Bool.Decides.{nat_tests}
use Rattle.std.proofs.lemmas.Simd.{map-map, zip2_of_maps}
use lib.Lanes.{zip2, sel_l, top}
use Rattle.byte_kit.specs.Classes.{word_class}
use Rattle.vector_search.proofs.Lanes.{loaded, loaded_behind}
use Rattle.scan_wordlist.specs.Filter.{behind_first, begins_row}
use Rattle.scan_wordlist.proofs.Runs.{row_more, row_of_one}

-- the bytes of a word are those at most 93 behind its first one
pub word_found : (byte : ℕ) → byte < 256 → leb (behind_first byte) 93 ≡ word_class byte
unfolding word_class
word_found byte small = agree_below_at (λ b. leb (behind_first b) 93) word_class 256 byte refl small

-- and the others the ones further behind
pub stranger_found : (byte : ℕ) → byte < 256 → ltb 93 (behind_first byte) ≡ not (word_class byte)
unfolding word_class
stranger_found byte small = agree_below_at (λ b. ltb 93 (behind_first b)) (λ b. not (word_class b)) 256 byte refl small

-- the larger of two numbers, as a vector's lane takes it
abbrev pub larger : ℕ → ℕ → ℕ
larger a b = cond (ltb a b) b a

-- the farthest of the byte at the place and so many behind it
unfoldable pub farthest : List ℕ → ℕ → ℕ → ℕ
farthest bytes zero place = behind_first (get_or bytes place 0)
farthest bytes (suc more) place = larger (farthest bytes more place) (behind_first (get_or bytes (place + (1 + more)) 0))

both_within : (a b most : ℕ) → leb (larger a b) most ≡ (leb a most && leb b most)
both_within a b most = grind (arith, nat_tests)

-- all of them are bytes of words where the farthest is
pub row_found : (bytes : List ℕ) (small : (place : ℕ) → get_or bytes place 0 < 256) (more place : ℕ) →
    leb (farthest bytes more place) 93 ≡ begins_row (more + 1) bytes place
unfolding farthest
row_found bytes small zero place =
    word_found (get_or bytes place 0) (small place) ∙ sym (row_of_one bytes place)
row_found bytes small (suc more) place =
    let e : suc more ≡ more + 1 = omega arith in
    let f : 1 + more ≡ more + 1 = omega arith in
    both_within (farthest bytes more place) (behind_first (get_or bytes (place + (1 + more)) 0)) 93
    ∙ ap (λ b. b && leb (behind_first (get_or bytes (place + (1 + more)) 0)) 93) (row_found bytes small more place)
    ∙ ap (λ b. begins_row (more + 1) bytes place && b) (word_found (get_or bytes (place + (1 + more)) 0) (small (place + (1 + more))))
    ∙ ap (λ k. begins_row (more + 1) bytes place && word_class (get_or bytes (place + k) 0)) f
    ∙ sym (row_more bytes (more + 1) place) ∙ ap (λ k. begins_row (k + 1) bytes place) (sym e)

-- the distances of the bytes at the places
pub first_lanes : (bytes : List ℕ) (at : ℕ) → at + 16 ≤ length bytes →
    map behind_first (take 16 (drop at bytes)) ≡ map (farthest bytes 0) (range_with_len at 16)
unfolding farthest
first_lanes bytes at fits = ap (map behind_first) (loaded bytes at 16 fits) ∙ map-map behind_first (λ place. get_or bytes place 0) (range_with_len at 16)

top_lane : (b : Bool) → top 7 (cond b 255 0) ≡ b
top_lane true = refl
top_lane false = refl

-- a lane of one of two vectors, as a test of its place says
selected : (test : ℕ → Bool) (f g : ℕ → ℕ) (places : List ℕ) →
    sel_l (map (top 7) (map (λ place. cond (test place) 255 0) places)) (map f places) (map g places) ≡ map (λ place. cond (test place) (f place) (g place)) places
selected test f g [] = refl
selected test f g (place ∷ places) =
    rw (top_lane (test place)) (ap (λ rest. cond (test place) (f place) (g place) ∷ rest) (selected test f g places))

-- the larger of two vectors, lane by lane
larger_lanes : (f g : ℕ → ℕ) (places v w : List ℕ) → v ≡ map f places → w ≡ map g places →
    sel_l (map (top 7) (zip2 (λ a b. cond (ltb a b) 255 0) v w)) w v ≡ map (λ place. larger (f place) (g place)) places
larger_lanes f g places v w is_v is_w =
    let all : ℕ = 255 in
    let compared = zip2_of_maps (λ a b. cond (ltb a b) all 0) f g places is_v is_w in
    rw (compared, is_v, is_w) (selected (λ place. ltb (f place) (g place)) g f places)

-- one more byte behind each
pub more_lanes : (bytes : List ℕ) (at more : ℕ) (v w : List ℕ) → at + (1 + more) + 16 ≤ length bytes →
    v ≡ map (farthest bytes more) (range_with_len at 16) → w ≡ map behind_first (take 16 (drop (at + (1 + more)) bytes)) →
    sel_l (map (top 7) (zip2 (λ a b. cond (ltb a b) 255 0) v w)) w v ≡ map (farthest bytes (more + 1)) (range_with_len at 16)
unfolding farthest
more_lanes bytes at more v w fits is_v is_w =
    let e : more + 1 ≡ suc more = omega arith in
    rw e
    (larger_lanes (farthest bytes more) (λ place. behind_first (get_or bytes (place + (1 + more)) 0)) (range_with_len at 16) v w is_v
    (is_w ∙ ap (map behind_first) (loaded_behind bytes at (1 + more) 16 fits)
    ∙ map-map behind_first (λ place. get_or bytes (place + (1 + more)) 0) (range_with_len at 16)))
