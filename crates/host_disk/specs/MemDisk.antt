-- What a disk in memory for tests is: its files, its calls with those that are to fail, and its counts.
use Rattle.std.specs.Prelude.{◌≡◌, ℕ, ◌↔◌, Bool, IsTrue, IsErrOf, Result}
use Rattle.byte_kit.specs.Calls.{CallPlan, is_due, after_begin}
use Rattle.host_disk.specs.Files.{Files}
use Rattle.host_disk.specs.Disk.{DiskNature}
use Rattle.host_disk.specs.Contents.{memory_nature, contents}
use Rattle.host_disk.specs.declared.disk.DiskFault.{DiskFault}
use Rattle.host_disk.specs.declared.disk.DiskFault.TheVariants.{Failed}
use Rattle.host_disk.specs.declared.mem_disk.MemDisk.{MemDisk}

-- what it never changes
abbrev pub mem_nature : MemDisk → DiskNature
mem_nature disk = memory_nature

-- its files
abbrev pub mem_files : MemDisk → Files
mem_files disk = contents disk.medium

-- whether it was mounted
abbrev pub mem_mounted : MemDisk → Bool
mem_mounted disk = disk.is_mounted

-- the calls of the trait so far, those that are to fail, and the faults
abbrev pub mem_calls : MemDisk → CallPlan
mem_calls disk = disk.calls

-- how many of the calls failed
abbrev pub mem_faults : MemDisk → ℕ
mem_faults disk = (mem_calls disk).faults

-- how many of the calls were those of `write_at` and `cut`
abbrev pub mem_writes : MemDisk → ℕ
mem_writes disk = disk.writes

-- the next call is one of those that are to fail
abbrev pub IsDue : MemDisk → Type 0
IsDue disk = IsTrue (is_due (mem_calls disk))

-- a call of the trait is counted, with its fault where it is due, and answers `Failed` exactly there
pub record IsCall {T : Type 0} (old new : MemDisk) (result : Result T DiskFault) : Type 0 where
  pub calls : mem_calls new ≡ after_begin (mem_calls old)
  pub failed : IsErrOf result Failed ↔ IsDue old
