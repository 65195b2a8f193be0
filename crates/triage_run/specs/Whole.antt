-- Why bytes were not read.
use Rattle.std.specs.Prelude.{ℕ, ◌<◌}
use Rattle.byte_kit.specs.Counts.{Rose}
use Rattle.triage_run.specs.declared.whole.ReadEnd.{ReadEnd}
use Rattle.triage_run.specs.declared.whole.ReadEnd.TheVariants.{Fault, NoMemory}

-- a fault comes only where there are bytes to read and the count rose; want of memory is free
abbrev pub IsReadCause : ℕ → ℕ → ℕ → ReadEnd → Type 0
IsReadCause size before now Fault = (0 < size) × Rose before now
IsReadCause size before now NoMemory = Unit {0}
