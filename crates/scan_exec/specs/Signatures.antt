-- Which places a search for executables and compressed files looks at.
use Rattle.std.specs.Prelude.{ℕ, ◌+◌, ◌==◌, ◌&&◌, ◌||◌, Bool, List, slice_index}

-- two bytes with which a signature begins: that of ELF, of the MS-DOS header, of gzip or of ZIP
unfoldable pub begin_signature : ℕ → ℕ → Bool
begin_signature first second =
    ((first == 0x7f) && (second == 0x45))
    || ((first == 0x4d) && (second == 0x5a))
    || ((first == 0x1f) && (second == 0x8b))
    || ((first == 0x50) && (second == 0x4b))

-- a signature may stand at the place: its first two bytes do
unfoldable pub may_begin : List ℕ → ℕ → Bool
may_begin bytes place = begin_signature (slice_index bytes place) (slice_index bytes (place + 1))
