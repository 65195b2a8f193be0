-- The length of a pattern's match at the front of some bytes, by what a search of them finds.
use Rattle.std.proofs.Common.{◌≡◌, ℕ, ◌≢◌, List, Option, Some, take, sym, eq-eqb, ne_eqb, ap, ◌∙◌, subst, option_map}
use Rattle.regex.specs.Patterns.{Re, find, span}
use Rattle.pattern_kit.specs.declared.TheConstants.{PATTERN_REACH}
use Rattle.pattern_kit.specs.Matching.{length_or_none, length_at, AreLengths}
use Rattle.pattern_kit.specs.Readings.{end_from_front, match_at_front}

pub front_is : (pattern : Re) (bytes seen : List ℕ) (found : Option (ℕ × ℕ)) → seen ≡ take PATTERN_REACH bytes →
    found ≡ option_map span (find pattern seen 0) → length_or_none (end_from_front found) ≡ length_at (match_at_front pattern) bytes 0
unfolding length_at match_at_front
front_is pattern bytes seen found is_seen is =
    ap (λ f. length_or_none (end_from_front f)) is
    ∙ ap (λ xs. length_or_none (end_from_front (option_map span (find pattern xs 0)))) is_seen

-- a match from the front on has its end as its length, and one that begins later has none
pub ends_at : (s e start : ℕ) → start ≡ s → start ≡ 0 → length_or_none (end_from_front (Some (s, e))) ≡ e
ends_at s e start is first = rw (eq-eqb s 0 (sym is ∙ first))

pub begins_later : (s e start : ℕ) → start ≡ s → start ≢ 0 → length_or_none (end_from_front (Some (s, e))) ≡ 0
begins_later s e start is later = rw (ne_eqb s 0 (λ zero. later (is ∙ zero)))

-- the same of the lengths at many places, where the patterns are one
pub lengths_of : (from : ℕ) (bytes : List ℕ) (lengths : List ℕ) (a b : Re) → a ≡ b →
    AreLengths (match_at_front a) bytes from lengths → AreLengths (match_at_front b) bytes from lengths
lengths_of from bytes lengths a b is lens = subst (λ p. AreLengths (match_at_front p) bytes from lengths) is lens
