-- Classes of bytes by two tables of sixteen entries.
use Rattle.std.specs.Prelude.{ℕ, ◌/◌, ◌%◌, ◌==◌, Bool, List, slice_index, bit_and}

-- the entry of the byte's high half in the one table has no bit in common with that of its low half in the other
abbrev pub is_outside : List ℕ → List ℕ → ℕ → Bool
is_outside columns rows byte = bit_and (slice_index columns (byte / 16)) (slice_index rows (byte % 16)) == 0
