-- Fronts and rests of lists, that std does not have.
use Rattle.std.proofs.Common.{◌≡◌, ◌∙◌, ℕ, zero, suc, ◌+◌, ◌-◌, ◌≤◌, List, [], ◌∷◌, ◌++◌, take, drop, refl, ap, arith}
use Rattle.std.proofs.lemmas.List.{drop-drop, drop-take, take-take}

-- a front of a + b is a front of a, and behind it one of b
pub take_sum : {X : Type 0} (a b : ℕ) (xs : List X) → take (a + b) xs ≡ take a xs ++ take b (drop a xs)
take_sum zero b xs = let e : 0 + b ≡ b = omega arith in rw e refl
take_sum (suc a) zero [] = let e : suc a + 0 ≡ suc (a + 0) = omega arith in rw e refl
take_sum (suc a) (suc b) [] = let e : suc a + suc b ≡ suc (a + suc b) = omega arith in rw e refl
take_sum (suc a) b (x ∷ xs) = let e : suc a + b ≡ suc (a + b) = omega arith in rw e (ap (λ rest. x ∷ rest) (take_sum a b xs))

-- within a front, counted from a place on, a piece is one of the whole list
pub piece_within : {X : Type 0} (xs : List X) (begin size from count : ℕ) → begin ≤ from → from + count ≤ begin + size →
    take count (drop (from - begin) (take size (drop begin xs))) ≡ take count (drop from xs)
piece_within xs begin size from count low high =
    let ahead = from - begin in
    let rest = size - ahead in
    let e : size ≡ ahead + rest = omega arith in
    let f : begin + ahead ≡ from = omega arith in
    let fits : count ≤ rest = omega arith in
    let cut : drop ahead (take (ahead + rest) (drop begin xs)) ≡ take rest (drop ahead (drop begin xs)) = drop-take ahead rest (drop begin xs) in
    let moved : drop ahead (drop begin xs) ≡ drop (begin + ahead) xs = drop-drop ahead begin xs in
    ap (λ n. take count (drop ahead (take n (drop begin xs)))) e
    ∙ ap (take count) (cut ∙ ap (take rest) (moved ∙ ap (λ n. drop n xs) f))
    ∙ take-take count rest (drop from xs) fits
