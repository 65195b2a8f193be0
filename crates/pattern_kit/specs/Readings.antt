-- What a text is read as by the `regex` crate, and what that matches at the front of some bytes.
use Rattle.std.specs.Prelude.{◌≡◌, ℕ, ◌==◌, List, Option, Some, None, false, option_map, if◌then◌else◌}
use Rattle.regex.specs.Patterns.{Re, SameCaptures, find, span, Config, default_config}
use Rattle.regex.specs.Bytes.{regex_source, regex_config, regex_pattern, IsReadFromSource}
use Rattle.regex.specs.declared.bytes.regex.Regex.{Regex}
use Rattle.regex_hir.specs.Meaning.{meaning}
use Rattle.regex_hir.specs.declared.hir.Hir.{Hir}

-- the default options over bytes: Unicode is on, and what is matched need not be UTF-8
abbrev pub byte_config : Config
byte_config = record default_config { utf8 = false }

-- The readings of a text: the patterns that the crate's grammar reads in it.
abbrev pub HasReading : List ℕ → Re → Type 0
HasReading text pattern =
    (regex : Regex) × (regex_source regex ≡ text) × (regex_config regex ≡ byte_config) × IsReadFromSource regex
    × (regex_pattern regex ≡ pattern)

-- the end of a match, given by its start and its end, that begins at the front
abbrev pub end_from_front : Option (ℕ × ℕ) → Option ℕ
end_from_front None = None
end_from_front (Some place) = if place.0 == 0 then Some place.1 else None

-- the length of the pattern's leftmost match, where it begins at the front
unfoldable pub match_at_front : Re → List ℕ → Option ℕ
match_at_front pattern bytes = end_from_front (option_map span (find pattern bytes 0))

-- the tree matches like each reading of the text
abbrev pub IsTreeOf : List ℕ → Hir → Type 0
IsTreeOf text tree = (pattern : Re) → HasReading text pattern → SameCaptures pattern (meaning tree)
