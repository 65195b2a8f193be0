-- Words in place of patterns: a text that is matched byte by byte.
use Rattle.std.specs.Prelude.{◌≡◌, ℕ, ◌/◌, ◌%◌, ◌^◌, ◌==◌, ◌&&◌, Bool, nat_eq, nat_lt, List, length, Option, Some, None, if◌then◌else◌}
use Rattle.std.specs.List.{starts_with}
use Rattle.pattern_kit.specs.Building.{Refusals, no_refusals}

-- the length of the word, where the bytes begin with it
unfoldable pub word_length : List ℕ → List ℕ → Option ℕ
word_length word bytes = if starts_with nat_eq bytes word then Some (length word) else None

-- a text is read as itself alone
abbrev pub IsItself : List ℕ → List ℕ → Type 0
IsItself text reading = reading ≡ text

-- which indices are refused, as the bits of a byte, and what was refused so far
pub record WordBuilds : Type 0 where
  pub refused : ℕ
  pub refusals : Refusals

-- no build so far
abbrev pub no_builds : ℕ → WordBuilds
no_builds refused = record { refused = refused; refusals = no_refusals }

-- the index is below 8, and its bit is set
abbrev pub is_refused : ℕ → ℕ → Bool
is_refused refused index = nat_lt index 8 && refused / 2 ^ index % 2 == 1
