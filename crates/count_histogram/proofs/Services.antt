-- The service of a URL is a front of it.
use Rattle.std.proofs.Common.{arith, ◌≡◌, refl, ℕ, ◌+◌, ◌≤◌, Bool, true, cond, not, nat_lt, ◌==◌, List, [], ◌∷◌, ◌++◌, Some, None, length, take, drop, map, position}
use Rattle.std.specs.Option.{unwrap_or}
use Rattle.std.specs.List.{position_or_len}
use Rattle.std.specs.Char.{to_ascii_lowercase}
use Rattle.std.specs.Str.{str_to_ascii_lowercase}
use Rattle.std.proofs.lemmas.Bool.{and_from, and_parts, eq-eqb, eqb-true}
use Rattle.std.proofs.lemmas.Bool.Decides.{nat_tests}
use Rattle.std.proofs.lemmas.List.{take-append-drop, drop-take, take-take}
use Rattle.std.proofs.lemmas.List.Sums.{prefix_len-le-length}
use Rattle.scan_url.specs.Url.{starts_caseless}

-- a front and what stands in front of the rest are one front
pub two_fronts : (m n : ℕ) (url : List ℕ) → take m url ++ take n (drop m url) ≡ take (m + n) url
two_fronts m n url =
    let whole = take-append-drop m (take (m + n) url) in
    let front = take-take m (m + n) url (omega arith) in
    let rest = drop-take m n url in
    cc

picked : (m n : ℕ) → m ≤ n → unwrap_or (cond (nat_lt m n) (Some m) None) n ≡ m
picked m n within = grind (arith, nat_tests)

-- the first place, or the length where there is none
pub or_length : (p : ℕ → Bool) (xs : List ℕ) → unwrap_or (position p xs) (length xs) ≡ position_or_len p xs
or_length p xs = picked (position_or_len p xs) (length xs) (prefix_len-le-length (λ x. not (p x)) xs)

-- a word in lower case is there where the bytes in its place are, in lower case, the word
pub starts : (word bytes : List ℕ) → str_to_ascii_lowercase word ≡ word → length word ≤ length bytes → str_to_ascii_lowercase (take (length word) bytes) ≡ word → starts_caseless word bytes ≡ true
starts [] bytes lower within is = refl
starts (l ∷ word) [] lower within is = absurd (omega arith)
starts (l ∷ word) (b ∷ bytes) lower within is =
    let each : ◌≡◌ {A = List ℕ} (to_ascii_lowercase b ∷ map to_ascii_lowercase (take (length word) bytes)) (l ∷ word) = is in
    let lows : ◌≡◌ {A = List ℕ} (to_ascii_lowercase l ∷ map to_ascii_lowercase word) (l ∷ word) = lower in
    let head : to_ascii_lowercase b ≡ l = cc in
    and_from (to_ascii_lowercase b == l) (starts_caseless word bytes) (eq-eqb (to_ascii_lowercase b) l head) (starts word bytes (cc) (omega arith) (cc))

pub started : (word bytes : List ℕ) → starts_caseless word bytes ≡ true → (str_to_ascii_lowercase (take (length word) bytes) ≡ word) × (length word ≤ length bytes)
started [] bytes h = (refl, omega arith)
started (l ∷ word) [] h = absurd (cc)
started (l ∷ word) (b ∷ bytes) h =
    let halves = and_parts (to_ascii_lowercase b == l) (starts_caseless word bytes) h in
    let rest = started word bytes halves.1 in
    let head = eqb-true (to_ascii_lowercase b) l halves.0 in
    let tail = rest.0 in
    let longer = rest.1 in
    ((λ i. head i ∷ tail i), omega arith)
