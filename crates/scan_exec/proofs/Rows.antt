-- Worked examples of executables and compressed files.
use Rattle.std.specs.Prelude.{ℕ, ◌≡◌, refl, List, [], ◌∷◌, ◌++◌, take, replicate, codes, Some, None}
use Rattle.std.specs.Fmt.{digits}
use Rattle.sbuf_nest.specs.Around.{look_at}
use Rattle.scan_exec.specs.Exec.{elf_of, pe_of, exec_of, unread_of}

-- ---- ELF

-- the 16 bytes in front, of this class, byte order and version
abbrev elf_front : ℕ → ℕ → ℕ → List ℕ
elf_front class order version = 0x7f ∷ 0x45 ∷ 0x4c ∷ 0x46 ∷ class ∷ order ∷ version ∷ replicate 9 0

pub elf_of_64_bits :
    exec_of (look_at (elf_front 2 1 1 ++ 2 ∷ 0 ∷ 0x3e ∷ 0 ∷ []) 0)
    ≡ Some (record { text = codes "ELF class=64 order=little type=2 machine=62"; extent = 20 })
unfolding exec_of elf_of pe_of look_at digits
elf_of_64_bits = refl

pub elf_of_32_bits_high_byte_first :
    exec_of (look_at (elf_front 1 2 1 ++ 0 ∷ 3 ∷ 1 ∷ 2 ∷ []) 0)
    ≡ Some (record { text = codes "ELF class=32 order=big type=3 machine=258"; extent = 20 })
unfolding exec_of elf_of pe_of look_at digits
elf_of_32_bits_high_byte_first = refl

pub elf_of_no_class : elf_of (elf_front 0 1 1 ++ 2 ∷ 0 ∷ 0x3e ∷ 0 ∷ []) ≡ None
unfolding elf_of digits
elf_of_no_class = refl

pub elf_of_class_3 : elf_of (elf_front 3 1 1 ++ 2 ∷ 0 ∷ 0x3e ∷ 0 ∷ []) ≡ None
unfolding elf_of digits
elf_of_class_3 = refl

pub elf_of_no_order : elf_of (elf_front 2 0 1 ++ 2 ∷ 0 ∷ 0x3e ∷ 0 ∷ []) ≡ None
unfolding elf_of digits
elf_of_no_order = refl

pub elf_of_order_3 : elf_of (elf_front 2 3 1 ++ 2 ∷ 0 ∷ 0x3e ∷ 0 ∷ []) ≡ None
unfolding elf_of digits
elf_of_order_3 = refl

pub elf_of_version_2 : elf_of (elf_front 2 1 2 ++ 2 ∷ 0 ∷ 0x3e ∷ 0 ∷ []) ≡ None
unfolding elf_of digits
elf_of_version_2 = refl

pub last_byte_of_elf_is_missing : elf_of (elf_front 2 1 1 ++ 2 ∷ 0 ∷ 0x3e ∷ []) ≡ None
unfolding elf_of digits
last_byte_of_elf_is_missing = refl

-- ---- PE

-- an MS-DOS header that names a place, and the header at it: machine 332, 3 sections, time 1
abbrev pe_file : ℕ → ℕ → ℕ → List ℕ
pe_file low high gap =
    codes "MZ" ++ replicate 58 0 ++ low ∷ high ∷ 0 ∷ 0 ∷ replicate gap 0
    ++ codes "PE" ++ 0 ∷ 0 ∷ 0x4c ∷ 1 ∷ 3 ∷ 0 ∷ 1 ∷ 0 ∷ 0 ∷ 0 ∷ []

pub pe_right_behind_the_dos_header :
    exec_of (look_at (pe_file 64 0 0) 0)
    ≡ Some (record { text = codes "PE machine=332 sections=3 time=1"; extent = 64 })
unfolding exec_of elf_of pe_of look_at digits
pe_right_behind_the_dos_header = refl

pub time_of_four_bytes :
    pe_of (take 72 (pe_file 64 0 0) ++ 0x78 ∷ 0x56 ∷ 0x34 ∷ 0x12 ∷ [])
    ≡ Some (record { text = codes "PE machine=332 sections=3 time=305419896"; extent = 64 })
unfolding pe_of digits
time_of_four_bytes = refl

-- the PE header would stand within the MS-DOS header, which names place 56
pub pe_within_the_dos_header :
    pe_of (codes "MZ" ++ replicate 54 0 ++ codes "PE" ++ 0 ∷ 0 ∷ 56 ∷ replicate 7 0) ≡ None
unfolding pe_of digits
pe_within_the_dos_header = refl

pub pe_at_4096 :
    pe_of (pe_file 0 16 4032) ≡ Some (record { text = codes "PE machine=332 sections=3 time=1"; extent = 64 })
unfolding pe_of digits
pe_at_4096 = refl

pub pe_at_4097 : pe_of (pe_file 1 16 4033) ≡ None
unfolding pe_of digits
pe_at_4097 = refl

pub last_byte_of_pe_is_missing : pe_of (take 75 (pe_file 64 0 0)) ≡ None
unfolding pe_of digits
last_byte_of_pe_is_missing = refl

pub no_pe_at_the_place : pe_of (pe_file 65 0 0 ++ 0 ∷ []) ≡ None
unfolding pe_of digits
no_pe_at_the_place = refl

-- a file of MS-DOS itself
pub dos_header_alone : pe_of (codes "MZ" ++ replicate 62 0) ≡ None
unfolding pe_of digits
dos_header_alone = refl

-- ---- compressed files

abbrev gzip_and_zip : List ℕ
gzip_and_zip = 0x1f ∷ 0x8b ∷ 8 ∷ 0x50 ∷ 0x4b ∷ 3 ∷ 4 ∷ []

pub gzip_in_front : unread_of (look_at gzip_and_zip 0) ≡ Some (record { text = codes "gzip"; extent = 3 })
unfolding unread_of look_at
gzip_in_front = refl

pub zip_behind_it : unread_of (look_at gzip_and_zip 3) ≡ Some (record { text = codes "zip"; extent = 4 })
unfolding unread_of look_at
zip_behind_it = refl

pub gzip_of_another_method : unread_of (look_at (0x1f ∷ 0x8b ∷ 7 ∷ []) 0) ≡ None
unfolding unread_of look_at
gzip_of_another_method = refl

pub last_byte_of_gzip_is_missing : unread_of (look_at (take 2 gzip_and_zip) 0) ≡ None
unfolding unread_of look_at
last_byte_of_gzip_is_missing = refl

pub last_byte_of_zip_is_missing : unread_of (look_at (take 6 gzip_and_zip) 3) ≡ None
unfolding unread_of look_at
last_byte_of_zip_is_missing = refl

-- the header of ZIP's directory
pub other_zip_header : unread_of (look_at (codes "PK" ++ 1 ∷ 2 ∷ []) 0) ≡ None
unfolding unread_of look_at
other_zip_header = refl
