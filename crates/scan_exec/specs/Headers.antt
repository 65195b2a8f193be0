-- What the program's `Exec` and `Unread` show.
use Rattle.std.specs.Prelude.{◌≡◌, ⊤, true, [], ◌∷◌, length, codes}
use Rattle.byte_kit.specs.Classes.{is_one_of}
use Rattle.scan_exec.specs.Exec.{Header, elf_text, pe_text, gzip_signature, zip_signature}
use Rattle.scan_exec.specs.declared.TheConstants.{ELF_SIZE, DOS_SIZE}
use Rattle.scan_exec.specs.declared.exec.Exec.{Exec}
use Rattle.scan_exec.specs.declared.exec.Exec.TheVariants.{Elf, Pe}
use Rattle.scan_exec.specs.declared.unread.Unread.{Unread}
use Rattle.scan_exec.specs.declared.unread.Unread.TheVariants.{Gzip, Zip}

-- the header that an `Exec` has been read from
unfoldable pub header_of : Exec → Header
header_of (Elf class order kind machine) = record { text = elf_text class order kind machine; extent = ELF_SIZE }
header_of (Pe machine sections time) = record { text = pe_text machine sections time; extent = DOS_SIZE }

-- the class and the byte order, where it has them, are known ones
unfoldable pub IsKnown : Exec → Type 0
IsKnown (Elf class order kind machine) = (is_one_of (1 ∷ 2 ∷ []) class ≡ true) × (is_one_of (1 ∷ 2 ∷ []) order ≡ true)
IsKnown (Pe machine sections time) = ⊤

-- the file that an `Unread` is noted for
unfoldable pub noted_as : Unread → Header
noted_as Gzip = record { text = codes "gzip"; extent = length gzip_signature }
noted_as Zip = record { text = codes "zip"; extent = length zip_signature }
