-- A block that is filled up behind what stands ahead of it.
use Rattle.std.proofs.Common.{◌≡◌, ◌∙◌, ℕ, zero, suc, ◌+◌, ◌-◌, ◌≤◌, List, [], ◌∷◌, ◌++◌, length, take, ap, refl, arith, append_assoc, length-append}
use Rattle.std.specs.Prelude.{replicate}
use Rattle.std.proofs.lemmas.List.{take_all, length-take, length-replicate}
use Rattle.image_gen.specs.Blocks.{filled}

-- a list cut at n + size, behind its first n elements
take_behind : (old rest : List ℕ) (size : ℕ) → take (length old + size) (old ++ rest) ≡ old ++ take size rest
take_behind [] rest size =
    let none : 0 + size ≡ size = omega arith in
    rw none refl
take_behind (x ∷ old) rest size =
    let one : suc (length old) + size ≡ suc (length old + size) = omega arith in
    rw one (ap (λ (tail : List ℕ). x ∷ tail) (take_behind old rest size))

-- as many zeros as are missing, or a cut where there are too many bytes
filled_is : (size : ℕ) (text : List ℕ) → take size text ++ replicate (size - length text) 0 ≡ filled size text
unfolding filled
filled_is size text = cut size size text (omega arith)
  where
    -- zeros from which more are cut than there are
    zeros : (size most : ℕ) → size ≤ most → replicate {A = ℕ} size 0 ≡ take size (replicate most 0)
    zeros zero most less = refl
    zeros (suc size) zero less = absurd (omega arith)
    zeros (suc size) (suc most) less = ap (λ (tail : List ℕ). 0 ∷ tail) (zeros size most (omega arith))

    cut : (size most : ℕ) (text : List ℕ) → size ≤ most
        → take size text ++ replicate (size - length text) 0 ≡ take size (text ++ replicate most 0)
    cut size most [] less =
        let nothing : size - 0 ≡ size = omega arith in
        rw (take_all {A = ℕ} size [] (omega arith), nothing) (zeros size most less)
    cut zero most (x ∷ text) less =
        let nothing : 0 - suc (length text) ≡ 0 = omega arith in
        rw nothing refl
    cut (suc size) most (x ∷ text) less =
        let same : suc size - suc (length text) ≡ size - length text = omega arith in
        rw same (ap (λ (tail : List ℕ). x ∷ tail) (cut size most text (omega arith)))

-- a list of n bytes that grew to m by a text, resized to n + size
pub filled_behind : (old text now : List ℕ) (size n m : ℕ) → n ≡ length old → m ≡ length now → now ≡ old ++ text
    → take (n + size) now ++ replicate (n + size - m) 0 ≡ old ++ filled size text
filled_behind old text now size n m long longer grown =
    let less : length old + size - length (old ++ text) ≡ size - length text = omega (arith, length-append old text) in
    rw (longer, long, grown, less, take_behind old text size)
    (append_assoc old (take size text) (replicate (size - length text) 0) ∙ ap (λ (rest : List ℕ). old ++ rest) (filled_is size text))

pub length-filled : (size : ℕ) (text : List ℕ) → length (filled size text) ≡ size
unfolding filled
length-filled size text =
    length-take size (text ++ replicate size 0)
    ∙ omega (arith, length-append text (replicate size 0), length-replicate {A = ℕ} size 0)
