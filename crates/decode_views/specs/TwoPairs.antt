-- Where a search for runs of pairs looks closer.
use Rattle.std.specs.Prelude.{ℕ, ◌+◌, ◌&&◌, Bool, List, slice_index}
use Rattle.decode_views.specs.Utf16.{is_pair}

-- two pairs stand in a row at the place; behind the end a byte is read as 0
unfoldable pub are_two_pairs : List ℕ → ℕ → Bool
are_two_pairs bytes place =
    is_pair (slice_index bytes place) (slice_index bytes (place + 1))
    && is_pair (slice_index bytes (place + 2)) (slice_index bytes (place + 3))
