-- Where a run of bytes begins.
use Rattle.std.specs.Prelude.{ℕ, ◌-◌, Bool, false, not, length, slice_get, Option}
use Rattle.std.specs.Option.{option_map_or}
use Rattle.sbuf_nest.specs.Around.{Around}

-- the byte right ahead of the place, if there is one
abbrev pub byte_ahead : Around → Option ℕ
byte_ahead look = slice_get look.before (length look.before - 1)

-- no byte of the class stands right ahead of the place
abbrev pub begins_run : (ℕ → Bool) → Around → Bool
begins_run class look = not (option_map_or class (byte_ahead look) false)
