-- Why a report was not written.
use Rattle.std.specs.Prelude.{◌≡◌, ℕ, ◌≤◌, Result, OnOk, IfErr}
use Rattle.byte_kit.specs.Counts.{counted}
use Rattle.host_disk.specs.declared.disk.DiskFault.{DiskFault}
use Rattle.host_disk.specs.declared.disk.DiskFault.TheVariants.{Failed, NoMemory as WantsMemory}
use Rattle.report_publish.specs.declared.fault.PublishFault.{PublishFault}
use Rattle.report_publish.specs.declared.fault.PublishFault.TheVariants.{Disk, NoMemory}

-- what a fault of the disk is to a report
abbrev pub fault_of : DiskFault → PublishFault
fault_of Failed = Disk
fault_of WantsMemory = NoMemory

-- `Disk` is the one fault of one call of the disk; want of memory leaves the count
abbrev pub IsCauseOf : ℕ → ℕ → PublishFault → Type 0
IsCauseOf before now Disk = now ≡ counted before
IsCauseOf before now NoMemory = now ≡ before

-- the count of faults stays where the report is written, and each refusal has its cause
pub record HasPublishCause {T : Type 0} (before now : ℕ) (result : Result T PublishFault) : Type 0 where
  pub later : before ≤ now
  pub works : OnOk result (now ≡ before)
  pub failed : IfErr result (IsCauseOf before now)
