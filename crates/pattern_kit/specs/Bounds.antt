-- No match has more bytes than there are, with the proof, which the law of the trait takes from here.
use Rattle.std.proofs.Common.{◌≡◌, ℕ, ◌≤◌, Bool, true, false, nat_eq, List, length, drop, Option, Some, None, option_map, refl, ap, ◌∙◌, arith, if◌then◌else◌}
use Rattle.std.proofs.lemmas.Bool.Decides.{Decides-eqb}
use Rattle.std.proofs.lemmas.List.{length-append}
use Rattle.std.proofs.lemmas.Slice.Eq.{starts_is}
use Rattle.std.specs.Prelude.{IfSome}
use Rattle.std.specs.List.{starts_with}
use Rattle.regex.specs.Patterns.{Re, Match, find, span}
use Rattle.regex.proofs.ForCallers.{find_sound}
use Rattle.regex_hir.proofs.MatchesLemmas.{Matches-IsSpan}
use Rattle.pattern_kit.specs.Words.{word_length}
use Rattle.pattern_kit.specs.Readings.{end_from_front, match_at_front}

-- bytes that begin with a word are no fewer than it has
pub begins_fits : (word bytes : List ℕ) → starts_with nat_eq bytes word ≡ true → length word ≤ length bytes
begins_fits word bytes begins =
    let joined = (starts_is Decides-eqb bytes word _ refl).0 begins in
    omega (arith, ap length joined ∙ length-append word (drop (length word) bytes))

if_some : (test : Bool) (count most : ℕ) → (test ≡ true → count ≤ most) → IfSome (if test then Some count else None) (λ n. n ≤ most)
if_some true count most fits = fits refl
if_some false count most fits = tt

pub word_bounded : (word bytes : List ℕ) → IfSome (word_length word bytes) (λ count. count ≤ length bytes)
unfolding word_length
word_bounded word bytes = if_some _ _ _ (begins_fits word bytes)

-- the end of what was found from the start on lies within the bytes
found_within : (pattern : Re) (bytes : List ℕ) (found : Option Match) → find pattern bytes 0 ≡ found →
    IfSome (end_from_front (option_map span found)) (λ count. count ≤ length bytes)
found_within pattern bytes None is = tt
found_within pattern bytes (Some m) is =
    if_some _ _ _ (λ at_front.
    let first : m.start ≡ 0 = (Decides-eqb m.start 0).0 at_front in
    let match = (find_sound pattern bytes 0 m is).1 in
    omega (arith, Matches-IsSpan bytes pattern m.start m.trace.end match))

pub regex_bounded : (pattern : Re) (bytes : List ℕ) → IfSome (match_at_front pattern bytes) (λ count. count ≤ length bytes)
unfolding match_at_front
regex_bounded pattern bytes = found_within pattern bytes (find pattern bytes 0) refl
