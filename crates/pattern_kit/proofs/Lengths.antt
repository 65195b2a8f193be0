-- The length at a place.
use Rattle.std.proofs.Common.{◌≡◌, ℕ, ◌+◌, List, Option, take, drop, ap, ◌∙◌, sym, arith}
use Rattle.std.proofs.lemmas.List.{drop-drop}
use Rattle.pattern_kit.specs.declared.TheConstants.{PATTERN_REACH}
use Rattle.pattern_kit.specs.Matching.{length_or_none, length_at}

-- the length at a place is that at the front of the bytes from it on
pub from_front : (pattern : List ℕ → Option ℕ) (bytes rest : List ℕ) (place : ℕ) → rest ≡ drop place bytes →
    length_at pattern rest 0 ≡ length_at pattern bytes place
unfolding length_at
from_front pattern bytes rest place is = ap (λ seen. length_at pattern seen 0) is

-- what is known of a place of the bytes from place `from + done` on
pub from_rest : (a b : List ℕ → Option ℕ) → a ≡ b → (bytes rest : List ℕ) (from done k value : ℕ) → rest ≡ drop (from + done) bytes →
    length_at a rest k ≡ value → length_at b bytes (from + (done + k)) ≡ value
unfolding length_at
from_rest a b same bytes rest from done k value is known =
    let index : from + (done + k) ≡ (from + done) + k = omega arith in
    ap (length_at b bytes) index
    ∙ ap (λ xs. length_or_none (b (take PATTERN_REACH xs))) (sym (drop-drop k (from + done) bytes) ∙ ap (drop k) (sym is))
    ∙ ap (λ f. length_at f rest k) (sym same) ∙ known
