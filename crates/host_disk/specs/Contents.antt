-- The files that a disk in memory holds.
use Rattle.std.specs.Prelude.{ℕ, List, [], true, slice_index_or}
use Rattle.host_disk.specs.Files.{Files}
use Rattle.host_disk.specs.Disk.{DiskNature}

-- a disk in memory tells its files, may want memory at each call, and may be mounted by any name
abbrev pub memory_nature : DiskNature
memory_nature = record { tells = true; takes_memory = true; may_mount = λ name. true }

-- the files of a list of their bytes, by index; a file past its end has none
abbrev pub contents : List (List ℕ) → Files
contents held file = slice_index_or held file []
