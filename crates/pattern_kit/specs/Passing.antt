-- Which places a search may pass without a look at each.
use Rattle.std.specs.Prelude.{◌≡◌, ℕ, ◌+◌, ◌<◌, ◌≤◌, List, length, take, drop, Option, Some, option_map, MatchOption}
use Rattle.regex.specs.Patterns.{Re, Match, find}
use Rattle.regex_meta.specs.Programs.{pattern_of}
use Rattle.pattern_kit.specs.declared.passing.Passing.{Passing}
use Rattle.pattern_kit.specs.declared.passing.Passing.TheVariants.{ByItself, BySieve, Never}
use Rattle.pattern_kit.specs.Readings.{match_at_front}
use Rattle.pattern_kit.specs.Matching.{length_or_none}
use Rattle.pattern_kit.specs.Meanings.{AreBytes}

-- the place lies ahead of what was found, or nothing was found
abbrev pub IsPassed : Option ℕ → ℕ → Type 0
IsPassed found place = MatchOption found (Unit {0}) (λ start. place < start)

-- A search is a sieve of a pattern. Where it passes a place in the first `most` bytes, the pattern has no
-- match in the `count` bytes from this place on, if these lie within the `most`.
abbrev pub IsSieve : (List ℕ → Option ℕ) → (List ℕ → Option ℕ) → Type 0
IsSieve search pattern =
    (bytes : List ℕ) → AreBytes bytes → (most count place : ℕ) → place + count ≤ most → place < length bytes →
    IsPassed (search (take most bytes)) place → length_or_none (pattern (take count (drop place bytes))) ≡ 0

-- where the pattern's leftmost match begins
unfoldable pub first_start : Re → List ℕ → Option ℕ
first_start pattern bytes = option_map (λ (m : Match). m.start) (find pattern bytes 0)

-- where the search of this kind stops, which is at each place if none are passed
abbrev pub search_of : Re → Passing → List ℕ → Option ℕ
search_of pattern ByItself = first_start pattern
search_of pattern (BySieve sieve) = first_start (pattern_of sieve.program)
search_of pattern Never = λ bytes. Some 0

-- what is passed has no match of the pattern
abbrev pub MayPass : Re → Passing → Type 0
MayPass pattern passing = IsSieve (search_of pattern passing) (match_at_front pattern)
