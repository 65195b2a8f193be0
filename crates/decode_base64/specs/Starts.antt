-- What a search for Base64 texts appends.
use Rattle.std.specs.Prelude.{ℕ, List}
use Rattle.forensic_path.specs.declared.path.Decoder.TheVariants.{Base64}
use Rattle.sbuf_nest.specs.Around.{Around}
use Rattle.sbuf_nest.specs.Marks.{started}
use Rattle.sbuf_nest.specs.declared.mark.Start.{Start}
use Rattle.decode_base64.specs.Text.{base64_text}

-- the start of a place: the Base64 text there
abbrev pub base64_starts : Around → ℕ → List Start
base64_starts look place = started Base64 place (base64_text look)
