-- What is cut off of the bytes of bits: those of more letters, and the bits behind the last whole byte.
use Rattle.std.proofs.Common.{◌≡◌, ◌∙◌, ℕ, zero, suc, ◌+◌, ◌*◌, ◌/◌, ◌≤◌, Bool, true, false, cond, List, [], ◌∷◌, ◌++◌, length, take, drop, replicate, refl, subst, sym, ap, arith, filter, flat_map}
use Rattle.std.specs.List.{AllPass}
use Rattle.std.proofs.lemmas.List.{length-take, take-append-le}
use Rattle.std.proofs.lemmas.List.Concat.{flat_map-append}
use Rattle.std.proofs.lemmas.List.Elements.{All-append, All-drop, All-replicate}
use Rattle.byte_kit.specs.Classes.{base64_class}
use Rattle.decode_base64.specs.Base64.{six_bits, bytes_of, base64_value}
use Rattle.decode_base64.proofs.Groups.{value_of}

-- the bytes of the first bits
bytes_front : (bits more : List ℕ) → take (length bits / 8) (bytes_of (bits ++ more)) ≡ bytes_of bits
bytes_front [] more = refl
bytes_front (a ∷ []) more = refl
bytes_front (a ∷ b ∷ []) more = refl
bytes_front (a ∷ b ∷ c ∷ []) more = refl
bytes_front (a ∷ b ∷ c ∷ d ∷ []) more = refl
bytes_front (a ∷ b ∷ c ∷ d ∷ e ∷ []) more = refl
bytes_front (a ∷ b ∷ c ∷ d ∷ e ∷ f ∷ []) more = refl
bytes_front (a ∷ b ∷ c ∷ d ∷ e ∷ f ∷ g ∷ []) more = refl
bytes_front (a ∷ b ∷ c ∷ d ∷ e ∷ f ∷ g ∷ h ∷ bits) more =
    let one_more : length (a ∷ b ∷ c ∷ d ∷ e ∷ f ∷ g ∷ h ∷ bits) / 8 ≡ suc (length bits / 8) = omega arith in
    rw one_more (ap (λ rest. (128 * a + 64 * b + 32 * c + 16 * d + 8 * e + 4 * f + 2 * g + h) ∷ rest) (bytes_front bits more))

length-bits : (letters : List ℕ) → length (flat_map six_bits letters) ≡ length letters * 6
length-bits [] = refl
length-bits (x ∷ letters) = omega (arith, length-bits letters)

-- the bytes of the first letters
pub value_front : (letters more : List ℕ) → take (length letters * 6 / 8) (value_of (letters ++ more)) ≡ value_of letters
value_front letters more =
    let bits = flat_map six_bits letters in
    ap (λ all. take (length letters * 6 / 8) (bytes_of all)) (flat_map-append six_bits letters more)
    ∙ ap (λ n. take (n / 8) (bytes_of (bits ++ flat_map six_bits more))) (sym (length-bits letters))
    ∙ bytes_front bits (flat_map six_bits more)

-- what passes a filter passes the test
kept_with : (p : ℕ → Bool) (x : ℕ) (kept : List ℕ) (b : Bool) → p x ≡ b → AllPass p kept → AllPass p (cond b (x ∷ kept) kept)
kept_with p x kept true is all zero d lt = is
kept_with p x kept true is all (suc k) d lt = all k d (omega (arith, lt))
kept_with p x kept false is all k d lt = all k d lt

pub kept_pass : (p : ℕ → Bool) (xs : List ℕ) → AllPass p (filter p xs)
kept_pass p [] k d lt = absurd (omega (arith, lt))
kept_pass p (x ∷ xs) k d lt = kept_with p x (filter p xs) (p x) refl (kept_pass p xs) k d lt

-- letters behind letters
pub all_letters : (text room : List ℕ) (n : ℕ) → AllPass base64_class room → AllPass base64_class (filter base64_class text ++ drop n room)
all_letters text room n all =
    All-append (λ x. base64_class x ≡ true) (filter base64_class text) (drop n room) (kept_pass base64_class text)
    (All-drop (λ x. base64_class x ≡ true) n room all)

-- the value stands in front of the room
pub value_decoded : (text room value letters : List ℕ) (k : ℕ) → k ≡ length (filter base64_class text) → letters ≡ filter base64_class text ++ drop k room
    → value ≡ value_of letters → k * 6 / 8 ≤ length value → take (k * 6 / 8) (value ++ letters) ≡ base64_value text
unfolding base64_value
value_decoded text room value letters k count gathered decoded within =
    take-append-le (k * 6 / 8) value letters within
    ∙ ap (take (k * 6 / 8)) (decoded ∙ ap value_of gathered)
    ∙ ap (λ j. take (j * 6 / 8) (value_of (filter base64_class text ++ drop k room))) count
    ∙ value_front (filter base64_class text) (drop k room)

-- a room that was empty is filled with letters
zero_letter : base64_class 65 ≡ true
unfolding base64_class
zero_letter = refl

pub filled : (n m : ℕ) (old room : List ℕ) → room ≡ take n old ++ replicate m 65 → old ≡ [] → AllPass base64_class room
filled n m old room is empty =
    let none : AllPass base64_class (take n old) = λ k d lt. absurd (omega (arith, lt, length-take n old, ap length empty)) in
    subst (AllPass base64_class) (sym is)
    (All-append (λ x. base64_class x ≡ true) (take n old) (replicate m 65) none (All-replicate (λ x. base64_class x ≡ true) m 65 zero_letter))
