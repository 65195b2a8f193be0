-- What a disk in memory that never fails is.
use Rattle.std.specs.Prelude.{Bool}
use Rattle.host_disk.specs.Files.{Files}
use Rattle.host_disk.specs.Disk.{DiskNature}
use Rattle.host_disk.specs.Contents.{memory_nature, contents}
use Rattle.host_disk.specs.declared.sure_disk.SureDisk.{SureDisk}

-- what it never changes
abbrev pub sure_nature : SureDisk → DiskNature
sure_nature disk = memory_nature

-- its files
abbrev pub sure_files : SureDisk → Files
sure_files disk = contents disk.medium

-- whether it was mounted
abbrev pub sure_mounted : SureDisk → Bool
sure_mounted disk = disk.is_mounted
