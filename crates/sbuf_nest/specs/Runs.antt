-- Where runs of bytes of a class begin.
use Rattle.std.specs.Prelude.{◌≡◌, ℕ, ◌<◌, ◌≤◌, ◌&&◌, nat_le, Bool, false, List}
use Rattle.std.specs.List.{prefix_len}
use Rattle.sbuf_nest.specs.Around.{Around, look_at}
use Rattle.sbuf_nest.specs.Edges.{begins_run}

-- a run of at least so many bytes of the class begins at the place
unfoldable pub begins_row : (ℕ → Bool) → ℕ → Around → Bool
begins_row class least look = begins_run class look && nat_le least (prefix_len class look.after)

-- no such run begins at a place from the first up to the end
abbrev pub NoRowFrom : (ℕ → Bool) → ℕ → List ℕ → ℕ → ℕ → Type 0
NoRowFrom class least bytes first end =
    (place : ℕ) → first ≤ place → place < end → begins_row class least (look_at bytes place) ≡ false
