-- Bytes that are held, when those ahead of a place are let go of, and when more are read behind them.
use Rattle.std.proofs.Common.{◌≡◌, ◌∙◌, ℕ, ◌+◌, ◌-◌, ◌≤◌, List, ◌++◌, length, take, drop, min, Option, Some, None, IfSome, sym, ap, arith}
use Rattle.std.specs.List.{copy_within}
use Rattle.std.proofs.lemmas.List.{take_at, take-take, drop-take, drop-drop, length-take-le, length-drop, length-append}
use Rattle.image_source.proofs.Lists.{take_sum}

-- a front of a front from a place on
drop_front : {X : Type 0} (xs : List X) (gone count : ℕ) → gone ≤ count → drop gone (take count xs) ≡ take (count - gone) (drop gone xs)
drop_front xs gone count low =
    let e : count ≡ gone + (count - gone) = omega arith in
    ap (λ n. drop gone (take n xs)) e ∙ drop-take gone (count - gone) xs

-- the bytes that stay are moved to the front of the room
pub slid : {X : Type 0} (room : List X) (gone count : ℕ) → gone ≤ count → count ≤ length room →
    take (count - gone) (copy_within room gone count 0) ≡ drop gone (take count room)
slid room gone count low high =
    let rest : length (drop gone room) ≡ length room - gone = length-drop gone room in
    let long : count - gone ≤ length (drop gone room) = omega (arith, rest) in
    take_at (take (count - gone) (drop gone room)) (drop (0 + (count - gone)) room) (count - gone) (length-take-le (count - gone) (drop gone room) long)
    ∙ sym (drop_front room gone count low)

-- they are the image's from a later place on
pub still_held : (image room new : List ℕ) (from to gone count most few : ℕ) → few ≡ min (count - gone) most → from + gone ≡ to → gone ≤ count →
    take (count - gone) new ≡ drop gone (take count room) → take count room ≡ take count (drop from image) →
    take few new ≡ take few (drop to image)
still_held image room new from to gone count most few least ends low moved held =
    let fits : few ≤ count - gone = omega (arith, least) in
    let all : take (count - gone) new ≡ take (count - gone) (drop to image) =
    moved ∙ ap (drop gone) held ∙ drop_front (drop from image) gone count low
    ∙ ap (take (count - gone)) (drop-drop gone from image ∙ ap (λ n. drop n image) ends) in
    sym (take-take few (count - gone) new fits) ∙ ap (take few) all ∙ take-take few (count - gone) (drop to image) fits

-- bytes that are read behind those that the room has make a longer front of the image's
pub filled : (told : Option (List ℕ)) (room front missing rest : List ℕ) (from held count : ℕ) → held ≤ count → count ≤ length room →
    front ≡ take held (take count room) → length missing ≡ count - held →
    IfSome told (λ image. take held room ≡ take held (drop from image)) →
    IfSome told (λ image. missing ≡ take (length missing) (drop (from + held) image)) →
    IfSome told (λ image. take count (front ++ missing ++ rest) ≡ take count (drop from image))
filled None room front missing rest from held count low high is long before read = tt
filled (Some image) room front missing rest from held count low high is long before read =
    let stands : front ≡ take held room = is ∙ take-take held count room low in
    let fits : held ≤ length room = omega arith in
    let ahead : length front ≡ held = ap length stands ∙ length-take-le held room fits in
    let both : length (front ++ missing) ≡ count = length-append front missing ∙ omega (arith, ahead, long) in
    let e : count ≡ held + (count - held) = omega arith in
    let piece : missing ≡ take (count - held) (drop held (drop from image)) =
    read ∙ ap (λ n. take n (drop (from + held) image)) long ∙ ap (take (count - held)) (sym (drop-drop held from image)) in
    take_at (front ++ missing) rest count both
    ∙ ap (λ bytes. bytes ++ missing) (stands ∙ before) ∙ ap (λ bytes. take held (drop from image) ++ bytes) piece
    ∙ sym (take_sum held (count - held) (drop from image))
    ∙ ap (λ n. take n (drop from image)) (sym e)
