-- A disk: numbered files in a place that was mounted, and a count of faults.
use Rattle.std.specs.Prelude.{◌≡◌, ℕ, ◌≤◌, Bool, List, IsTrue, Result, IfErr, OnOk}
use Rattle.byte_kit.specs.Counts.{counted, Rose}
use Rattle.host_disk.specs.declared.disk.DiskFault.{DiskFault}
use Rattle.host_disk.specs.declared.disk.DiskFault.TheVariants.{Failed, NoMemory}

-- what a disk never changes: whether it tells its files, whether its calls after `mount` take memory, and the names it may be asked for
pub record DiskNature : Type 0 where
  pub tells : Bool
  pub takes_memory : Bool
  pub may_mount : List ℕ → Bool

-- `Failed` raises the count by one; want of memory leaves it, and comes only from a call that takes memory
abbrev pub IsFaultOf : ℕ → ℕ → Bool → DiskFault → Type 0
IsFaultOf before now takes_memory Failed = now ≡ counted before
IsFaultOf before now takes_memory NoMemory = (now ≡ before) × IsTrue takes_memory

-- one call: the count stays where it works, and each fault is one of this call
pub record IsDiskCall {T : Type 0} (before now : ℕ) (takes_memory : Bool) (result : Result T DiskFault) : Type 0 where
  pub later : before ≤ now
  pub works : OnOk result (now ≡ before)
  pub failed : IfErr result (IsFaultOf before now takes_memory)

-- `Failed` comes only where the count rose, and want of memory only from calls that take memory
abbrev pub IsCauseOf : ℕ → ℕ → Bool → DiskFault → Type 0
IsCauseOf before now takes_memory Failed = Rose before now
IsCauseOf before now takes_memory NoMemory = IsTrue takes_memory

-- several calls: the count never falls, and each fault has its cause
pub record HasDiskCause {T : Type 0} (before now : ℕ) (takes_memory : Bool) (result : Result T DiskFault) : Type 0 where
  pub later : before ≤ now
  pub failed : IfErr result (IsCauseOf before now takes_memory)
