-- The bytes under a name, by what is kept of them.
use Rattle.std.specs.Prelude.{ℕ, List, replicate}
use Rattle.host_source.specs.declared.content.Stored.{Stored}
use Rattle.host_source.specs.declared.content.Stored.TheVariants.{Bytes, Filled}

-- the bytes themselves, or one byte so many times
abbrev pub bytes_of : Stored → List ℕ
bytes_of (Bytes bytes) = bytes
bytes_of (Filled size fill) = replicate size fill
