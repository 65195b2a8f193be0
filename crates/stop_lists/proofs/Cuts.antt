-- A text that is cut at the first byte that is a mark.
use Rattle.std.specs.Prelude.{◌≡◌, ℕ, ◌+◌, ◌==◌, Bool, true, false, cond, List, [], ◌∷◌, Some, None, length, take, drop, position, nat_lt, refl}
use Rattle.std.specs.List.{slice_split, position_or_len}
use Rattle.std.proofs.Common.{◌∙◌, ap, arith}
use Rattle.std.proofs.lemmas.List.{drop-drop}
use Rattle.std.proofs.lemmas.List.Sums.{fails_before_first, position_or_len_is}
use Rattle.std.proofs.lemmas.List.Quantifiers.{position-Some}
use Rattle.std.proofs.lemmas.List.Splits.{slice_split_first, slice_split_none}
use Rattle.std.proofs.lemmas.Bool.{ltb-false}

abbrev is_mark : ℕ → ℕ → Bool
is_mark mark byte = byte == mark

pub cut_first : (mark : ℕ) (text : List ℕ) (at : ℕ) → position (λ byte. byte == mark) text ≡ Some at
    → slice_split (λ byte. byte == mark) text ≡ take at text ∷ slice_split (λ byte. byte == mark) (drop 1 (drop at text))
cut_first mark text at found =
    let place = position-Some (is_mark mark) text at 0 found in
    let same : position_or_len (is_mark mark) text ≡ at =
    position_or_len_is (is_mark mark) text at 0 (omega (arith, place.0)) place.2 (λ _. place.1) in
    let split = slice_split_first (is_mark mark) text 0 (omega (arith, place.0, same)) in
    let rest : drop 1 (drop at text) ≡ drop (at + 1) text = drop-drop 1 at text in
    let front : take (position_or_len (is_mark mark) text) text ≡ take at text = ap (λ n. take n text) same in
    let back : drop (position_or_len (is_mark mark) text + 1) text ≡ drop (at + 1) text = ap (λ n. drop (n + 1) text) same in
    split ∙ cc

none_passes : (text : List ℕ) (b : Bool) (n : ℕ) → nat_lt n (length text) ≡ b → cond b (Some n) None ≡ None → b ≡ false
none_passes text true n test none = cc
none_passes text false n test none = cc

pub cut_none : (mark : ℕ) (text : List ℕ) → position (λ byte. byte == mark) text ≡ None
    → slice_split (λ byte. byte == mark) text ≡ text ∷ []
cut_none mark text none =
    let first = position_or_len (is_mark mark) text in
    let test = none_passes text (nat_lt first (length text)) first refl none in
    slice_split_none (is_mark mark) text (λ k d below. fails_before_first (is_mark mark) text k d (omega (arith, ltb-false first (length text) test)))
