-- A word in front of bytes, letter by letter.
use Rattle.std.proofs.Common.{◌≡◌, ℕ, ◌<◌, ◌≤◌, false, List, length, drop, refl, drop-cons}
use Rattle.std.proofs.lemmas.List.{drop_all}
use Rattle.scan_url.specs.Url.{starts_caseless}

-- the bytes end ahead of the word
pub ended : (word bytes : List ℕ) (i : ℕ) → i < length word → length bytes ≤ i →
    starts_caseless (drop i word) (drop i bytes) ≡ false
ended word bytes i more end = rw (drop-cons word i 0, drop_all i bytes) refl
