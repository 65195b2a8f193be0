-- What a search for runs of digits appends.
use Rattle.std.specs.Prelude.{ℕ, List}
use Rattle.forensic_path.specs.declared.path.Decoder.TheVariants.{Hex}
use Rattle.sbuf_nest.specs.Around.{Around}
use Rattle.sbuf_nest.specs.Marks.{started}
use Rattle.sbuf_nest.specs.declared.mark.Start.{Start}
use Rattle.decode_hex.specs.Hex.{hex_run}

-- the start of a place: the run of digits that begins there
abbrev pub hex_starts : Around → ℕ → List Start
hex_starts look place = started Hex place (hex_run look)
