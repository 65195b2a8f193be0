-- Groups of four letters, and the three bytes that each of them gives.
use Rattle.std.proofs.Common.{◌≡◌, ◌∙◌, ℕ, ◌+◌, ◌*◌, ◌/◌, ◌%◌, ◌<◌, ◌≤◌, ◌==◌, ◌&&◌, ◌||◌, not, nat_lt, Bool, true, List, [], ◌∷◌, ◌++◌, length, take, drop, set, get_or, slice_index, refl, sym, ap, arith, flat_map}
use Rattle.std.specs.List.{AllPass}
use Rattle.std.proofs.lemmas.Bool.{agree_below_at, and_parts, eqb-true, ltb-true}
use Rattle.std.proofs.lemmas.Bool.Decides.{nat_tests}
use Rattle.std.proofs.lemmas.List.{append-nil, append_assoc, drop_all, drop_more, get_or-set_same, length-set, take_all, take_more, take-set-le}
use Rattle.byte_kit.specs.Classes.{base64_class}
use Rattle.decode_base64.specs.Base64.{letter_number, six_bits, bytes_of}
use Rattle.decode_base64.specs.declared.value.TheConstants.{NUMBERS}

-- the bytes of letters
abbrev pub value_of : List ℕ → List ℕ
value_of letters = bytes_of (flat_map six_bits letters)

-- ---- the number of a letter

-- the table has the number of each letter
is_numbered : ℕ → Bool
is_numbered x = not (base64_class x) || (nat_lt (letter_number x) 64 && (slice_index NUMBERS x == letter_number x))

all_numbered : (x : ℕ) → x < 256 → is_numbered x ≡ true
unfolding base64_class is_numbered
all_numbered x small = agree_below_at is_numbered (λ _. true) 256 x refl small

small : (x : ℕ) → base64_class x ≡ true → x < 256
unfolding base64_class
small x is = grind (arith, nat_tests)

pub numbered : (x : ℕ) → base64_class x ≡ true → (letter_number x < 64) × (slice_index NUMBERS x ≡ letter_number x)
unfolding is_numbered
numbered x is =
    let test = all_numbered x (small x is) in
    let both : (nat_lt (letter_number x) 64 && (slice_index NUMBERS x == letter_number x)) ≡ true = rw is at test in
    let parts = and_parts _ _ both in
    (ltb-true _ _ parts.0, eqb-true _ _ parts.1)

-- ---- its bits

make_up : ℕ → Bool
make_up n =
    (32 * (n / 32 % 2) + 16 * (n / 16 % 2) + 8 * (n / 8 % 2) + 4 * (n / 4 % 2) + 2 * (n / 2 % 2) + n % 2 == n)
    && (2 * (n / 32 % 2) + n / 16 % 2 == n / 16)
    && (8 * (n / 32 % 2) + 4 * (n / 16 % 2) + 2 * (n / 8 % 2) + n / 4 % 2 == n / 4)

all_made_up : (n : ℕ) → n < 64 → make_up n ≡ true
unfolding make_up
all_made_up n below = agree_below_at make_up (λ _. true) 64 n refl below

-- the six bits make up the number, the upper two and the upper four what is left without the others
record SixBits (n a b c d e f : ℕ) : Type 0 where
  all : 32 * a + 16 * b + 8 * c + 4 * d + 2 * e + f ≡ n
  two : 2 * a + b ≡ n / 16
  four : 8 * a + 4 * b + 2 * c + d ≡ n / 4

made_up : (n : ℕ) → n < 64 → SixBits n (n / 32 % 2) (n / 16 % 2) (n / 8 % 2) (n / 4 % 2) (n / 2 % 2) (n % 2)
unfolding make_up
made_up n below =
    let parts = and_parts _ _ (all_made_up n below) in
    let front = and_parts _ _ parts.0 in
    record { all = eqb-true _ _ front.0; two = eqb-true _ _ front.1; four = eqb-true _ _ parts.1 }

-- ---- the octets of four letters

cons_three : (p q r x y z : ℕ) (xs ys : List ℕ) → p ≡ x → q ≡ y → r ≡ z → xs ≡ ys → p ∷ q ∷ r ∷ xs ≡ x ∷ y ∷ z ∷ ys
cons_three p q r x y z xs ys e f g h = cc (e, f, g, h)

module _ (n m a b c d e f g h i j k l : ℕ) (first : SixBits n a b c d e f) (second : SixBits m g h i j k l) where
  octet_0 : 128 * a + 64 * b + 32 * c + 16 * d + 8 * e + 4 * f + 2 * g + h ≡ 4 * n + m / 16
  octet_0 = omega (arith, first.all, second.two)

  octet_1 : 128 * c + 64 * d + 32 * e + 16 * f + 8 * g + 4 * h + 2 * i + j ≡ 16 * (n % 16) + m / 4
  octet_1 = omega (arith, first.all, first.two, second.four)

  octet_2 : 128 * e + 64 * f + 32 * g + 16 * h + 8 * i + 4 * j + 2 * k + l ≡ 64 * (n % 4) + m
  octet_2 = omega (arith, first.all, first.four, second.all)

module _ (a b c d : ℕ) (rest : List ℕ) (first : base64_class a ≡ true) (second : base64_class b ≡ true) (third : base64_class c ≡ true) (fourth : base64_class d ≡ true) where
  pub octets : value_of (a ∷ b ∷ c ∷ d ∷ rest)
      ≡ (4 * letter_number a + letter_number b / 16) ∷ (16 * (letter_number b % 16) + letter_number c / 4) ∷ (64 * (letter_number c % 4) + letter_number d) ∷ value_of rest
  octets =
      let ma = made_up (letter_number a) (numbered a first).0 in
      let mb = made_up (letter_number b) (numbered b second).0 in
      let mc = made_up (letter_number c) (numbered c third).0 in
      let md = made_up (letter_number d) (numbered d fourth).0 in
      cons_three _ _ _ _ _ _ _ _ (octet_0 _ _ _ _ _ _ _ _ _ _ _ _ _ _ ma mb) (octet_1 _ _ _ _ _ _ _ _ _ _ _ _ _ _ mb mc) (octet_2 _ _ _ _ _ _ _ _ _ _ _ _ _ _ mc md) refl

-- ---- group by group

-- the letters of the groups from one on are its four, and those of the groups behind it
drop_group : (letters : List ℕ) (at : ℕ) → at + 4 ≤ length letters →
    drop at letters ≡ get_or letters at 0 ∷ get_or letters (at + 1) 0 ∷ get_or letters (at + 2) 0 ∷ get_or letters (at + 3) 0 ∷ drop (at + 4) letters
drop_group letters at within =
    let next : (k : ℕ) → k < 4 → drop (at + k) letters ≡ get_or letters (at + k) 0 ∷ drop (at + (k + 1)) letters =
    λ k below. drop_more letters (at + k) 0 (omega (arith, within)) ∙ ap (λ i. get_or letters (at + k) 0 ∷ drop i letters) (omega arith) in
    let none : drop at letters ≡ drop (at + 0) letters = ap (λ i. drop i letters) (omega arith) in
    none ∙ next 0 (omega arith)
    ∙ ap (λ rest. get_or letters (at + 0) 0 ∷ rest) (next 1 (omega arith) ∙ ap (λ rest. get_or letters (at + 1) 0 ∷ rest) (next 2 (omega arith) ∙ ap (λ rest. get_or letters (at + 2) 0 ∷ rest) (next 3 (omega arith))))
    ∙ ap (λ i. get_or letters i 0 ∷ get_or letters (at + 1) 0 ∷ get_or letters (at + 2) 0 ∷ get_or letters (at + 3) 0 ∷ drop (at + 4) letters) (omega arith)

-- a byte written behind those taken
written : (xs : List ℕ) (k x : ℕ) → k < length xs → take (k + 1) (set xs k x) ≡ take k xs ++ x ∷ []
written xs k x within =
    take_more (set xs k x) k 0 (omega (arith, within, length-set xs k x))
    ∙ ap (λ front. front ++ get_or (set xs k x) k 0 ∷ []) (take-set-le k xs k x (omega arith))
    ∙ ap (λ y. take k xs ++ y ∷ []) (get_or-set_same xs k x 0 within)

-- three bytes, one behind the other
three_written : (xs : List ℕ) (k x y z : ℕ) → k + 3 ≤ length xs →
    take (k + 3) (set (set (set xs k x) (k + 1) y) (k + 2) z) ≡ take k xs ++ x ∷ y ∷ z ∷ []
three_written xs k x y z within =
    let one = set xs k x in
    let two = set one (k + 1) y in
    let long_one = length-set xs k x in
    let long_two = length-set one (k + 1) y in
    let first : k + 1 + 1 ≡ k + 2 = omega arith in
    let second : k + 2 + 1 ≡ k + 3 = omega arith in
    ap (λ n. take n (set two (k + 2) z)) (sym second) ∙ written two (k + 2) z (omega (arith, within, long_one, long_two))
    ∙ ap (λ front. front ++ z ∷ [])
    (ap (λ n. take n two) (sym first) ∙ written one (k + 1) y (omega (arith, within, long_one)) ∙ ap (λ front. front ++ y ∷ []) (written xs k x (omega (arith, within))))
    ∙ ap (λ front. front ++ z ∷ []) (append_assoc (take k xs) (x ∷ []) (y ∷ [])) ∙ append_assoc (take k xs) (x ∷ y ∷ []) (z ∷ [])

-- the bytes of a group come behind those of the groups ahead of it, and ahead of the rest
pub group_step : (letters value : List ℕ) (group m0 m1 m2 m3 : ℕ) → AllPass base64_class letters → 4 * group + 4 ≤ length letters → 3 * group + 3 ≤ length value →
    m0 ≡ letter_number (get_or letters (4 * group) 0) → m1 ≡ letter_number (get_or letters (4 * group + 1) 0) →
    m2 ≡ letter_number (get_or letters (4 * group + 2) 0) → m3 ≡ letter_number (get_or letters (4 * group + 3) 0) →
    take (3 * group) value ++ value_of (drop (4 * group) letters) ≡ value_of letters →
    take (3 * (group + 1)) (set (set (set value (3 * group) (4 * m0 + m1 / 16)) (3 * group + 1) (16 * (m1 % 16) + m2 / 4)) (3 * group + 2) (64 * (m2 % 4) + m3))
    ++ value_of (drop (4 * (group + 1)) letters) ≡ value_of letters
group_step letters value group m0 m1 m2 m3 all within room is_0 is_1 is_2 is_3 so_far =
    let at = 4 * group in
    let to = 3 * group in
    let x = 4 * m0 + m1 / 16 in
    let y = 16 * (m1 % 16) + m2 / 4 in
    let z = 64 * (m2 % 4) + m3 in
    let rest = drop (at + 4) letters in
    let letter = λ (k : ℕ). get_or letters k 0 in
    let bytes : value_of (drop at letters) ≡ x ∷ y ∷ z ∷ value_of rest =
    rw (is_0, is_1, is_2, is_3) (
    ap value_of (drop_group letters at within)
    ∙ octets (letter at) (letter (at + 1)) (letter (at + 2)) (letter (at + 3)) rest
    (all at 0 (omega (arith, within))) (all (at + 1) 0 (omega (arith, within))) (all (at + 2) 0 (omega (arith, within))) (all (at + 3) 0 (omega (arith, within)))
    ) in
    let taken : 3 * (group + 1) ≡ to + 3 = omega arith in
    let left : 4 * (group + 1) ≡ at + 4 = omega arith in
    rw (taken, left) (
    ap (λ front. front ++ value_of rest) (three_written value to x y z room)
    ∙ append_assoc (take to value) (x ∷ y ∷ z ∷ []) (value_of rest)
    ∙ ap (λ bytes. take to value ++ bytes) (sym bytes) ∙ so_far
    )

-- all groups are written
pub groups_written : (letters value : List ℕ) (groups : ℕ) → length letters ≤ 4 * groups → length value ≤ 3 * groups →
    take (3 * groups) value ++ value_of (drop (4 * groups) letters) ≡ value_of letters → value ≡ value_of letters
groups_written letters value groups all room so_far =
    sym (append-nil value) ∙ ap (λ front. front ++ []) (sym (take_all (3 * groups) value room))
    ∙ ap (λ rest. take (3 * groups) value ++ value_of rest) (sym (drop_all (4 * groups) letters all)) ∙ so_far
