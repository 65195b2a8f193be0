-- A number is read back from its bytes, wherever they stand.
use Rattle.std.proofs.Common.{ℕ, ◌≡◌, ◌+◌, ◌^◌, ◌<◌, List, ◌++◌, length, slice_index, ◌∙◌, add_assoc, arith}
use Rattle.std.proofs.lemmas.List.{get_or-append-add}
use Rattle.byte_kit.specs.Numbers.{le16, le32, le64, le16_bytes, le32_bytes, le64_bytes}

-- what is read behind some bytes is what is read of the rest
le16_behind : (front back : List ℕ) (at : ℕ) → le16 (front ++ back) (length front + at) ≡ le16 back at
le16_behind front back at =
    let low : slice_index (front ++ back) (length front + at) ≡ slice_index back at = get_or-append-add front back at 0 in
    let high : slice_index (front ++ back) (length front + (at + 1)) ≡ slice_index back (at + 1) =
    get_or-append-add front back (at + 1) 0 in
    rw (low, add_assoc (length front) at 1, high)

le32_behind : (front back : List ℕ) (at : ℕ) → le32 (front ++ back) (length front + at) ≡ le32 back at
le32_behind front back at =
    let high : le16 (front ++ back) (length front + at + 2) ≡ le16 back (at + 2) =
    rw (add_assoc (length front) at 2) (le16_behind front back (at + 2)) in
    omega (arith, le16_behind front back at, high)

le64_behind : (front back : List ℕ) (at : ℕ) → le64 (front ++ back) (length front + at) ≡ le64 back at
le64_behind front back at =
    let high : le32 (front ++ back) (length front + at + 4) ≡ le32 back (at + 4) =
    rw (add_assoc (length front) at 4) (le32_behind front back (at + 4)) in
    omega (arith, le32_behind front back at, high)

-- a number's two bytes are read as the number
pub le16_back : (front back : List ℕ) (n : ℕ) → n < 2 ^ 16 → le16 (front ++ (le16_bytes n ++ back)) (length front) ≡ n
le16_back front back n small =
    let here : le16 (le16_bytes n ++ back) 0 ≡ n = omega arith in
    let at : length front + 0 ≡ length front = omega arith in
    (rw at at (le16_behind front (le16_bytes n ++ back) 0)) ∙ here

-- a number's four bytes are read as the number
pub le32_back : (front back : List ℕ) (n : ℕ) → n < 2 ^ 32 → le32 (front ++ (le32_bytes n ++ back)) (length front) ≡ n
le32_back front back n small =
    let here : le32 (le32_bytes n ++ back) 0 ≡ n = omega arith in
    let at : length front + 0 ≡ length front = omega arith in
    (rw at at (le32_behind front (le32_bytes n ++ back) 0)) ∙ here

-- a number's eight bytes are read as the number
pub le64_back : (front back : List ℕ) (n : ℕ) → n < 2 ^ 64 → le64 (front ++ (le64_bytes n ++ back)) (length front) ≡ n
le64_back front back n small =
    let here : le64 (le64_bytes n ++ back) 0 ≡ n = omega arith in
    let at : length front + 0 ≡ length front = omega arith in
    (rw at at (le64_behind front (le64_bytes n ++ back) 0)) ∙ here
