-- The word at a place.
use Rattle.std.specs.Prelude.{ℕ, ◌≡◌, ◌<◌, ◌&&◌, ◌⊎◌, nat_le, Option, Some, None, if◌then◌else◌}
use Rattle.std.specs.List.{prefix_len}
use Rattle.byte_kit.specs.Classes.{word_class}
use Rattle.sbuf_nest.specs.Around.{Around}
use Rattle.sbuf_nest.specs.Edges.{begins_run}

-- the length of the word at the place: a whole run of word bytes, of at least so many and at most so many
unfoldable pub word_of : ℕ → ℕ → Around → Option ℕ
word_of least most look =
    let run = prefix_len word_class look.after in
    if begins_run word_class look && nat_le least run && nat_le run most then Some run else None

-- the number is the run's length, or both are above the most
abbrev pub IsRunUpTo : ℕ → ℕ → ℕ → Type 0
IsRunUpTo most run number = (number ≡ run) ⊎ ((most < run) × (most < number))
