-- The slots of a source over files, by the parts that it has open.
use Rattle.std.specs.Prelude.{ℕ, ◌==◌, List, [], ◌∷◌, Option, Some, None, if◌then◌else◌}
use Rattle.host_source.specs.Source.{Slot}
use Rattle.triage.specs.declared.file_source.Part.{Part}

-- what is attached to a slot: the first part that has it
abbrev pub slots_of : List Part → ℕ → Option Slot
slots_of [] slot = None
slots_of (part ∷ parts) slot = if slot == part.slot then Some (record { name = part.name; size = part.size }) else slots_of parts slot
