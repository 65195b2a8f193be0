-- Runs of bytes that are their own text, and the byte that ends one.
use Rattle.std.proofs.Common.{◌≡◌, ℕ, zero, suc, ◌<◌, ◌≤◌, Bool, true, false, cond, Some, None, List, [], ◌∷◌, ◌++◌, not, ◌==◌, length, take, drop, get_or, position, refl, ap, sym, subst, add-zero, length-drop, get_or-drop, ◌∙◌, arith, nat_le}
use Rattle.std.specs.List.{AllByRecursion, position_or_len}
use Rattle.std.proofs.lemmas.Bool.{ltb-false, leb-true, and_parts, not-false}
use Rattle.std.proofs.lemmas.List.{take_all, take-append-drop}
use Rattle.std.proofs.lemmas.Grind.{flat_map-append}
use Rattle.std.proofs.lemmas.List.Sums.{fails_before_first}
use Rattle.std.proofs.lemmas.List.Quantifiers.{position-Some}
use Rattle.byte_kit.specs.Classes.{printable_class}
use Rattle.feature_escape.specs.Escape.{AreBytes, escape_of, escaped, stands, unescape_lenient_of}
use Rattle.feature_escape.proofs.LenientLaw.{one_byte}

is_none : (b : Bool) (i : ℕ) → cond b (Some i) None ≡ None → b ≡ false
is_none true i none = cc
is_none false i none = refl

-- where no index is found, each byte fails the test
fails_everywhere : (p : ℕ → Bool) (xs : List ℕ) → position p xs ≡ None → (k : ℕ) → k < length xs → p (get_or xs k 0) ≡ false
fails_everywhere p xs none k within =
    let past : length xs ≤ position_or_len p xs = ltb-false _ _ (is_none _ _ none) in
    fails_before_first p xs k 0 (omega arith)

-- each element fails the test
abbrev pub AllFail : (ℕ → Bool) → List ℕ → Type 0
AllFail p xs = AllByRecursion (λ x. p x ≡ false) xs

front_fails : (p : ℕ → Bool) (xs : List ℕ) (n : ℕ) → ((k : ℕ) → k < n → p (get_or xs k 0) ≡ false) → AllFail p (take n xs)
front_fails p xs zero fails = tt
front_fails p [] (suc n) fails = tt
front_fails p (x ∷ xs) (suc n) fails = (fails zero (omega arith), front_fails p xs n (λ k lt. fails (suc k) (omega arith)))

-- each element before the first that passes fails
pub fails_before : (p : ℕ → Bool) (xs : List ℕ) (at : ℕ) → position p xs ≡ Some at → AllFail p (take at xs)
fails_before p xs at found = front_fails p xs at (position-Some p xs at 0 found).2

-- where none passes, each fails
pub fails_in_all : (p : ℕ → Bool) (xs : List ℕ) → position p xs ≡ None → AllFail p xs
fails_in_all p xs none =
    subst (AllFail p) (take_all (length xs) xs (omega arith)) (front_fails p xs (length xs) (fails_everywhere p xs none))

-- where one passes, something is left from it on, and it passes
pub left_from : (p : ℕ → Bool) (xs : List ℕ) (at : ℕ) → position p xs ≡ Some at → 0 < length (drop at xs)
left_from p xs at found =
    let within : at < length xs = (position-Some p xs at 0 found).0 in
    omega (arith, length-drop at xs)

pub passes_at : (p : ℕ → Bool) (xs : List ℕ) (at : ℕ) → position p xs ≡ Some at → p (get_or (drop at xs) 0 0) ≡ true
passes_at p xs at found =
    let facts = position-Some p xs at 0 found in
    let same : get_or (drop at xs) 0 0 ≡ get_or xs at 0 = get_or-drop at xs 0 0 ∙ ap (λ k. get_or xs k 0) (add-zero at) in
    ap p same ∙ facts.1

-- the test is true of each byte that is escaped
abbrev pub is_escaped : ℕ → Bool
is_escaped byte = not (stands byte)

-- a run of bytes that stand is its own escape
pub escape_of_run : (run : List ℕ) → AllFail is_escaped run → escape_of run ≡ run
unfolding escape_of
escape_of_run [] stand = refl
escape_of_run (byte ∷ run) stand =
    let first : stands byte ≡ true = not-false _ stand.0 in
    rw first (ap (λ rest. byte ∷ rest) (escape_of_run run stand.1))

is_byte : (byte : ℕ) → stands byte ≡ true → byte < 256
unfolding printable_class
is_byte byte stand =
    let class : printable_class byte ≡ true = (and_parts _ _ stand).0 in
    let small : byte ≤ 126 = leb-true byte 126 (and_parts (nat_le 32 byte) (nat_le byte 126) class).1 in
    omega (arith, small)

pub run_is_bytes : (run : List ℕ) → AllFail is_escaped run → AreBytes run
run_is_bytes [] stand = tt
run_is_bytes (byte ∷ run) stand = (is_byte byte (not-false _ stand.0), run_is_bytes run stand.1)

-- the escape of two pieces
pub escape_of-append : (xs ys : List ℕ) → escape_of (xs ++ ys) ≡ escape_of xs ++ escape_of ys
unfolding escape_of
escape_of-append xs ys = flat_map-append escaped xs ys

-- the escape of what isn't empty begins with its first byte's
pub escape_of-first : (bytes : List ℕ) → 0 < length bytes → escape_of bytes ≡ escaped (get_or bytes 0 0) ++ escape_of (drop 1 bytes)
unfolding escape_of
escape_of-first [] some = absurd (omega arith)
escape_of-first (byte ∷ bytes) some = refl

-- the escape is the run, the escape of what ends it, and that of the rest
pub escape_of-at : (bytes : List ℕ) (at : ℕ) → position is_escaped bytes ≡ Some at
    → escape_of bytes ≡ take at bytes ++ (escaped (get_or (drop at bytes) 0 0) ++ escape_of (drop 1 (drop at bytes)))
escape_of-at bytes at found =
    ap escape_of (sym (take-append-drop at bytes)) ∙ escape_of-append (take at bytes) (drop at bytes)
    ∙ ap (λ run. run ++ escape_of (drop at bytes)) (escape_of_run (take at bytes) (fails_before is_escaped bytes at found))
    ∙ ap (λ rest. take at bytes ++ rest) (escape_of-first (drop at bytes) (left_from is_escaped bytes at found))

-- a run without a backslash is read as itself, whatever follows it
pub read_run : (run text : List ℕ) → AllFail (λ byte. byte == 92) run → unescape_lenient_of (run ++ text) ≡ run ++ unescape_lenient_of text
read_run [] text other = refl
read_run (byte ∷ run) text other = one_byte byte (run ++ text) other.0 ∙ ap (λ rest. byte ∷ rest) (read_run run text other.1)
