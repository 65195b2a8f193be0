-- A search for a pattern without its assertions passes no place at which the pattern matches.
use Rattle.std.proofs.Common.{◌≡◌, ℕ, ◌+◌, ◌-◌, ◌≤◌, false, List, ◌++◌, length, take, drop, Option, None, Some, option_map, ap, ◌∙◌, sym, refl, subst, inl, inr, arith, ◌≢◌, ne_eqb}
use Rattle.std.proofs.lemmas.Bool.{cases_lt}
use Rattle.std.proofs.lemmas.Option.{none-some}
use Rattle.std.proofs.lemmas.List.{take-append-drop, drop-take, take-take, length-take, get_or_past, get_or-take, get_or-drop}
use Rattle.regex.proofs.ForCallers.{span_alike, find_sound, find_complete}
use Rattle.regex.specs.Patterns.{Re, Match, Matches, SameCaptures, find, span}
use Rattle.regex_hir.proofs.OptionLemmas.{value_of_IsSome}
use Rattle.pattern_kit.specs.Assertions.{without_looks}
use Rattle.pattern_kit.specs.Matching.{length_or_none}
use Rattle.pattern_kit.specs.Meanings.{AreBytes}
use Rattle.pattern_kit.specs.Passing.{IsPassed, IsSieve, first_start}
use Rattle.pattern_kit.specs.Readings.{end_from_front, match_at_front}
use Rattle.pattern_kit.proofs.Lifting.{lift}

pub bytes_take : (n : ℕ) (xs : List ℕ) → AreBytes xs → AreBytes (take n xs)
bytes_take n xs bytes k = elim (cases_lt k n)
    [ inl lt ↦ rw (get_or-take n xs k 0 lt) (bytes k) | inr ge ↦ rw (get_or_past (take n xs) k 0 (omega (arith, length-take n xs))) (omega arith) ]

pub bytes_drop : (n : ℕ) (xs : List ℕ) → AreBytes xs → AreBytes (drop n xs)
bytes_drop n xs bytes k = rw (get_or-drop n xs k 0) (bytes (n + k))

-- a place's own bytes stand in the first bytes
part_stands : (most count place : ℕ) (xs : List ℕ) → place + count ≤ most →
    drop place (take most xs) ≡ take count (drop place xs) ++ drop count (drop place (take most xs))
part_stands most count place xs le =
    let front : drop place (take most xs) ≡ take (most - place) (drop place xs) =
    ap (λ n. drop place (take n xs)) (omega arith) ∙ drop-take place (most - place) xs in
    let own : take count (drop place (take most xs)) ≡ take count (drop place xs) =
    ap (take count) front ∙ take-take count (most - place) (drop place xs) (omega arith) in
    sym (take-append-drop count (drop place (take most xs))) ∙ ap (λ ys. ys ++ drop count (drop place (take most xs))) own

-- nothing matches at a place that a search passes
never_before : (hay : List ℕ) (pattern : Re) (place end : ℕ) (found : Option Match) → find pattern hay 0 ≡ found → place ≤ length hay →
    IsPassed (option_map (λ (m : Match). m.start) found) place → ¬ (Matches hay pattern place end)
never_before hay pattern place end None is le passed m =
    let v = value_of_IsSome _ (find_complete pattern hay 0 place end (omega arith) le m) in none-some v.0 (sym is ∙ v.1)
never_before hay pattern place end (Some f) is le passed m = (find_sound pattern hay 0 f is).2 place end (omega arith) passed m

-- with no match at the front there is no length
no_length : (own : List ℕ) (pattern : Re) (found : Option Match) → find pattern own 0 ≡ found → ((end : ℕ) → ¬ (Matches own pattern 0 end)) →
    length_or_none (end_from_front (option_map span found)) ≡ 0
no_length own pattern None is none = refl
no_length own pattern (Some f) is none = elim (cases_lt 0 f.start) [
  | inl later ↦ (let other : f.start ≢ 0 = omega arith in rw (ne_eqb f.start 0 other))
  | inr first ↦
      let at_front : f.start ≡ 0 = omega arith in
      absurd (none f.trace.end (rw at_front at (find_sound pattern own 0 f is).1))
]

-- whatever matches like `twin` has no match where a search for `twin` without its assertions passes
pub passes_for : (pattern twin : Re) → SameCaptures pattern twin → IsSieve (first_start (without_looks twin)) (match_at_front pattern)
unfolding first_start match_at_front
passes_for pattern twin alike bytes are_bytes most count place within inside passed =
    let own = take count (drop place bytes) in
    let hay = take most bytes in
    let own_bytes : AreBytes own = bytes_take count _ (bytes_drop place bytes are_bytes) in
    let here : place ≤ length hay = omega (arith, length-take most bytes) in
    let same : place + 0 ≡ place = omega arith in
    ap (λ f. length_or_none (end_from_front f)) (span_alike alike own own_bytes false 0)
    ∙ no_length own twin (find twin own 0) refl (λ end m.
    never_before hay (without_looks twin) place (place + end) _ refl here passed
    (subst (λ p. Matches hay (without_looks twin) p (place + end)) same
    (lift hay own _ place (part_stands most count place bytes within) twin 0 end (omega arith) m)))

abbrev pub start_of : Option (ℕ × ℕ) → Option ℕ
start_of = option_map (λ (p : ℕ × ℕ). p.0)

start_of_span : (found : Option Match) → option_map (λ (m : Match). m.start) found ≡ start_of (option_map span found)
start_of_span None = refl
start_of_span (Some m) = refl

-- where the match begins that a search found
pub starts_at : (pattern : Re) (bytes : List ℕ) (found : Option (ℕ × ℕ)) → found ≡ option_map span (find pattern bytes 0) →
    start_of found ≡ first_start pattern bytes
unfolding first_start
starts_at pattern bytes found is = ap start_of is ∙ sym (start_of_span (find pattern bytes 0))

-- a pattern that matches like one without assertions is its own sieve
pub passes_for_itself : (pattern twin : Re) → SameCaptures pattern twin → without_looks twin ≡ twin →
    IsSieve (first_start pattern) (match_at_front pattern)
unfolding first_start
passes_for_itself pattern twin alike plain bytes are_bytes most count place within inside passed =
    let hay = take most bytes in
    let starts : first_start pattern hay ≡ first_start (without_looks twin) hay =
    start_of_span (find pattern hay 0) ∙ ap start_of (span_alike alike hay (bytes_take most bytes are_bytes) false 0)
    ∙ sym (start_of_span (find twin hay 0)) ∙ ap (λ p. first_start p hay) (sym plain) in
    passes_for pattern twin alike bytes are_bytes most count place within inside (subst (λ f. IsPassed f place) starts passed)

-- a search that stops at each place passes none
pub none_passed : (pattern : List ℕ → Option ℕ) → IsSieve (λ bytes. Some 0) pattern
none_passed pattern bytes are_bytes most count place within inside passed = absurd (omega (arith, passed))
