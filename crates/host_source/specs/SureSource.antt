-- What a source of one name means as a source.
use Rattle.std.specs.Prelude.{ℕ, if◌then◌else◌, false, Option, Some, None, length, slice_index_or}
use Rattle.std.specs.Str.{bytes_eq}
use Rattle.host_source.specs.declared.sure_source.SureSource.{SureSource}
use Rattle.host_source.specs.Source.{SourceNature, Slot}

-- it tells its bytes under its name, and may be asked for no other
abbrev pub sure_nature : SureSource → SourceNature
sure_nature source = record {
  held = Some (λ name. if bytes_eq name source.name.now then Some source.bytes.now else None);
  may_attach = λ name. bytes_eq name source.name.now;
}

-- the slots that are marked have its name attached
abbrev pub sure_slots : SureSource → ℕ → Option Slot
sure_slots source slot =
    if slice_index_or source.attached slot false
    then Some (record { name = source.name.now; size = length source.bytes.now })
    else None
