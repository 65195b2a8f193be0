-- What a source in memory means as a source, and which of its calls are to fail.
use Rattle.std.specs.Prelude.{ℕ, Option}
use Rattle.byte_kit.specs.Calls.{CallPlan}
use Rattle.host_source.specs.declared.mem_source.MemSource.{MemSource}
use Rattle.host_source.specs.Entries.{nature_of, slots_in}
use Rattle.host_source.specs.Source.{SourceNature, Slot}

-- it tells what its entries hold, and may be asked for every name
abbrev pub mem_nature : MemSource → SourceNature
mem_nature source = nature_of source.entries.items

-- what is attached to each slot
abbrev pub mem_slots : MemSource → ℕ → Option Slot
mem_slots source = slots_in source.entries.items source.places

-- the calls made so far, those that are to fail, and the faults
abbrev pub mem_calls : MemSource → CallPlan
mem_calls source = source.calls

-- how many of the calls failed
abbrev pub mem_faults : MemSource → ℕ
mem_faults source = (mem_calls source).faults
