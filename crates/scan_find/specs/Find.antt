-- What a keyword and a pattern match at a place.
use Rattle.std.specs.Prelude.{ℕ, ◌==◌, nat_eq, List, length, take, Option, Some, None, option_and_then, if◌then◌else◌}
use Rattle.std.specs.List.{starts_with}
use Rattle.sbuf_nest.specs.Around.{Around}
use Rattle.pattern_kit.specs.declared.TheConstants.{PATTERN_REACH}

-- the length of the keyword, where its bytes stand at the place
unfoldable pub keyword_of : List ℕ → Around → Option ℕ
keyword_of keyword look = if starts_with nat_eq look.after keyword then Some (length keyword) else None

-- a length of at least 1
abbrev pub of_some_length : ℕ → Option ℕ
of_some_length n = if n == 0 then None else Some n

-- the length of the pattern's match at the place. A pattern is a function from bytes to the length of
-- its match at their front; it sees the first at most 256 bytes from the place on, and none ahead of it.
unfoldable pub pattern_of : (List ℕ → Option ℕ) → Around → Option ℕ
pattern_of pattern look = option_and_then of_some_length (pattern (take PATTERN_REACH look.after))
