-- What a search for runs of pairs appends.
use Rattle.std.specs.Prelude.{ℕ, List}
use Rattle.forensic_path.specs.declared.path.Decoder.TheVariants.{Utf16}
use Rattle.sbuf_nest.specs.Around.{Around}
use Rattle.sbuf_nest.specs.Marks.{started}
use Rattle.sbuf_nest.specs.declared.mark.Start.{Start}
use Rattle.decode_views.specs.Utf16.{utf16_run}

-- the start of a place: the run of pairs that begins there
abbrev pub utf16_starts : Around → ℕ → List Start
utf16_starts look place = started Utf16 place (utf16_run look)
