use Rattle.std.proofs.Common.{◌∙◌, ℕ, ◌+◌, ◌==◌, Bool, not, map, get_or, bit_and, ap, refl, arith}
use Rattle.std.specs.List.{range_with_len}
use Rattle.std.proofs.lemmas.Simd.{map-map, zip2_of_maps}
use Rattle.scan_find.specs.Front.{buckets_of, may_stand}
use Rattle.vector_search.proofs.Lanes.{loaded, loaded_behind, splatted, compared, bits_of_mask}
use Rattle.scan_find.proofs.front.FrontPlaceTest.mask.Goals as goal

pub returns : goal.returns
unfolding may_stand
returns c =
    let bytes = c.args.bytes.now in
    let at = c.args.at in
    let front = c.args.self.now in
    let places = range_with_len at 16 in
    let a : ℕ → ℕ = λ place. buckets_of front.first (get_or bytes place 0) in
    let b : ℕ → ℕ = λ place. buckets_of front.second (get_or bytes (place + 1) 0) in
    let d : ℕ → ℕ = λ place. buckets_of front.third (get_or bytes (place + 2) 0) in
    let is_a = c.buckets_of_each.ensures ∙ ap (map (buckets_of front.first)) (loaded bytes at 16 (omega (arith, c.requires))) ∙ map-map (buckets_of front.first) (λ place. get_or bytes place 0) places in
    let is_b = c.buckets_of_each-2.ensures ∙ ap (map (buckets_of front.second)) (loaded_behind bytes at 1 16 (omega (arith, c.requires))) ∙ map-map (buckets_of front.second) (λ place. get_or bytes (place + 1) 0) places in
    let is_d = c.buckets_of_each-3.ensures ∙ ap (map (buckets_of front.third)) (loaded_behind bytes at 2 16 (omega (arith, c.requires))) ∙ map-map (buckets_of front.third) (λ place. get_or bytes (place + 2) 0) places in
    let differ : ℕ → ℕ → Bool = λ x y. not (x == y) in
    let all : ℕ → ℕ = λ place. bit_and (bit_and (a place) (b place)) (d place) in
    bits_of_mask _ at (λ place. differ (all place) 0) (may_stand front bytes)
    (compared differ _ _ at all (λ _. 0) (zip2_of_maps bit_and (λ place. bit_and (a place) (b place)) d places (zip2_of_maps bit_and a b places is_a is_b) is_d) (splatted at 16 0))
    (λ _. refl)
