-- The Look of a place in a part of an image is its Look in the image, where the part has all that it sees.
use Rattle.std.proofs.Common.{◌≡◌, ◌∙◌, ℕ, zero, suc, ◌+◌, ◌-◌, ◌*◌, ◌<◌, ◌≤◌, List, [], ◌∷◌, ◌++◌, length, take, drop, min, refl, sym, ap, arith}
use Rattle.std.specs.Prelude.{Option}
use Rattle.std.specs.List.{range_with_len, flat_map}
use Rattle.std.proofs.lemmas.List.{take_all, take-take, drop-take, drop-drop, length-drop, length-take}
use Rattle.sbuf_nest.specs.Around.{Around, look_at}
use Rattle.sbuf_nest.specs.declared.look.TheConstants.{LOOK_BEFORE, LOOK_AFTER}
use Rattle.forensic_path.specs.declared.feature.Feature.{Feature}
use Rattle.scan_set.specs.Here.{here, owned}
use Rattle.scan_set.specs.declared.plan.ScanPlan.{ScanPlan}
use Rattle.page_split.specs.Pages.{WindowsSuffice}

-- a front of a front is one of the list, where the shorter one is the list's own or the list ends within it
take_within : {X : Type 0} (r m : ℕ) (xs : List X) → min r (length xs) ≤ m → take r (take m xs) ≡ take r xs
take_within zero m xs fits = refl
take_within (suc r) zero [] fits = refl
take_within (suc r) zero (x ∷ xs) fits = absurd (omega (arith, fits))
take_within (suc r) (suc m) [] fits = refl
take_within (suc r) (suc m) (x ∷ xs) fits = ap (λ rest. x ∷ rest) (take_within r m xs (omega (arith, fits)))

drop_front : {X : Type 0} (xs : List X) (gone count : ℕ) → gone ≤ count → drop gone (take count xs) ≡ take (count - gone) (drop gone xs)
drop_front xs gone count low =
    let e : count ≡ gone + (count - gone) = omega arith in
    ap (λ n. drop gone (take n xs)) e ∙ drop-take gone (count - gone) xs

-- the bytes ahead of a place
ahead_is : (image : List ℕ) (from to place reach : ℕ) → place ≤ to - from → min reach (from + place) ≤ place →
    drop (place - reach) (take place (take (to - from) (drop from image))) ≡ drop (from + place - reach) (take (from + place) image)
ahead_is image from to place reach inside sees =
    let e : from + (place - reach) ≡ from + place - reach = omega (arith, sees) in
    ap (drop (place - reach)) (take-take place (to - from) (drop from image) inside ∙ sym (drop-take from place image))
    ∙ drop-drop (place - reach) from (take (from + place) image)
    ∙ ap (λ n. drop n (take (from + place) image)) e

-- the bytes from a place on
behind_is : (image : List ℕ) (from to place reach : ℕ) → place ≤ to - from → min (from + place + reach) (length image) ≤ to →
    take reach (drop place (take (to - from) (drop from image))) ≡ take reach (drop (from + place) image)
behind_is image from to place reach inside sees =
    let rest : length (drop (from + place) image) ≡ length image - (from + place) = length-drop (from + place) image in
    ap (take reach) (drop_front (drop from image) place (to - from) inside ∙ ap (take (to - from - place)) (drop-drop place from image))
    ∙ take_within reach (to - from - place) (drop (from + place) image) (omega (arith, rest, sees, inside))

pub look_is : (image : List ℕ) (from to place : ℕ) → place ≤ to - from → min LOOK_BEFORE (from + place) ≤ place →
    min (from + place + LOOK_AFTER) (length image) ≤ to →
    look_at (take (to - from) (drop from image)) place ≡ look_at image (from + place)
unfolding look_at
look_is image from to place inside ahead behind =
    let before = ahead_is image from to place LOOK_BEFORE inside ahead in
    let after = behind_is image from to place LOOK_AFTER inside behind in
    ap (λ (bytes : List ℕ). record { before = bytes; after = take LOOK_AFTER (drop place (take (to - from) (drop from image))) }) before
    ∙ ap (λ (bytes : List ℕ). record { before = drop (from + place - LOOK_BEFORE) (take (from + place) image); after = bytes }) after

-- so the features of a run of places of the part are those of the image's places
pub owned_is : (patterns : List (List ℕ → Option ℕ)) (plan : ScanPlan) (left : ℕ) (image : List ℕ) (from to first count : ℕ) →
    first + count ≤ to - from → min LOOK_BEFORE (from + first) ≤ first → min (from + first + count + LOOK_AFTER) (length image) ≤ to →
    owned patterns plan left [] (take (to - from) (drop from image)) from first count ≡ owned patterns plan left [] image 0 (from + first) count
unfolding owned
owned_is patterns plan left image from to first zero inside ahead behind = refl
owned_is patterns plan left image from to first (suc count) inside ahead behind =
    let looks = look_is image from to first (omega (arith, inside)) ahead (omega (arith, behind)) in
    let e : 0 + (from + first) ≡ from + first = omega arith in
    let f : from + (first + 1) ≡ from + first + 1 = omega arith in
    let one = ap (λ (look : Around). here patterns plan left [] look (from + first)) looks
    ∙ ap (λ (place : ℕ). here patterns plan left [] (look_at image (from + first)) place) (sym e) in
    let more = owned_is patterns plan left image from to (first + 1) count (omega (arith, inside)) (omega (arith, ahead)) (omega (arith, behind)) in
    let rest = more ∙ ap (λ (place : ℕ). owned patterns plan left [] image 0 place count) f in
    ap (λ (front : List Feature). front ++ owned patterns plan left [] (take (to - from) (drop from image)) from (first + 1) count) one
    ∙ ap (λ (back : List Feature). here patterns plan left [] (look_at image (from + first)) (0 + (from + first)) ++ back) rest

pub windows_suffice : WindowsSuffice
windows_suffice image page margin number place reach low high =
    let from = number * page - LOOK_BEFORE in
    let end = min (number * page + page) (length image) in
    let to = min (end + margin) (length image) in
    let e : from + (place - from) ≡ place = omega (arith, low) in
    look_is image from to (place - from) (omega (arith, low, high)) (omega (arith, low)) (omega (arith, reach, low, high))
    ∙ ap (look_at image) e
