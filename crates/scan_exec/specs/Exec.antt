-- The headers of executable files at a place, and the signatures of compressed ones.
use Rattle.std.specs.Prelude.{ℕ, ◌+◌, ◌==◌, ◌&&◌, nat_eq, nat_le, Bool, List, [], ◌∷◌, ◌++◌, length, drop, decimal, codes, slice_index, Option, Some, None, if◌then◌else◌}
use Rattle.std.specs.List.{starts_with}
use Rattle.std.specs.Option.{option_or}
use Rattle.byte_kit.specs.Classes.{is_one_of}
use Rattle.sbuf_nest.specs.Around.{Around}
use Rattle.byte_kit.specs.Numbers.{le16, be16, le32}
use Rattle.scan_exec.specs.declared.TheConstants.{ELF_SIZE, DOS_SIZE, PE_PLACE_MOST}

-- what a header shows as text, and how many bytes it covers
pub record Header : Type 0 where
  pub text : List ℕ
  pub extent : ℕ

-- the bytes begin with these
abbrev pub begins : List ℕ → List ℕ → Bool
begins bytes signature = starts_with nat_eq bytes signature

-- ---- ELF (System V ABI, chapter 4, "ELF Header")

-- an ELF header of a known class (32 or 64 bits), byte order (low or high byte first) and version
abbrev pub is_elf : List ℕ → Bool
is_elf bytes =
    begins bytes (0x7f ∷ codes "ELF")
    && is_one_of (1 ∷ 2 ∷ []) (slice_index bytes 4)
    && is_one_of (1 ∷ 2 ∷ []) (slice_index bytes 5)
    && (slice_index bytes 6 == 1)
    && nat_le ELF_SIZE (length bytes)

-- the text of an ELF header of this class and byte order
abbrev pub elf_text : ℕ → ℕ → ℕ → ℕ → List ℕ
elf_text class order kind machine =
    codes "ELF class=" ++ (if class == 1 then codes "32" else codes "64")
    ++ codes " order=" ++ (if order == 1 then codes "little" else codes "big")
    ++ codes " type=" ++ decimal kind ++ codes " machine=" ++ decimal machine

-- two bytes from a place on, in the order that byte 5 of the header names
abbrev pub elf_half : List ℕ → ℕ → ℕ
elf_half bytes at = if slice_index bytes 5 == 1 then le16 bytes at else be16 bytes at

unfoldable pub elf_of : List ℕ → Option Header
elf_of bytes =
    if is_elf bytes
    then Some (record {
      text = elf_text (slice_index bytes 4) (slice_index bytes 5) (elf_half bytes 16) (elf_half bytes 18);
      extent = ELF_SIZE;
    })
    else None

-- ---- PE (Microsoft PE Format, "MS-DOS Stub", "Signature" and "COFF File Header")

-- where the PE header stands: the last four bytes of the MS-DOS header say it
abbrev pub pe_place : List ℕ → ℕ
pe_place bytes = le32 bytes 60

-- an MS-DOS header, and a PE header at the place that it names, from 64 to 4,096
abbrev pub is_pe : List ℕ → Bool
is_pe bytes =
    begins bytes (codes "MZ")
    && nat_le DOS_SIZE (pe_place bytes)
    && nat_le (pe_place bytes) PE_PLACE_MOST
    && nat_le (pe_place bytes + 12) (length bytes)
    && begins (drop (pe_place bytes) bytes) (codes "PE" ++ 0 ∷ 0 ∷ [])

-- the text of a PE header
abbrev pub pe_text : ℕ → ℕ → ℕ → List ℕ
pe_text machine sections time =
    codes "PE machine=" ++ decimal machine ++ codes " sections=" ++ decimal sections ++ codes " time=" ++ decimal time

unfoldable pub pe_of : List ℕ → Option Header
pe_of bytes =
    if is_pe bytes
    then Some (record {
      text = pe_text (le16 bytes (pe_place bytes + 4)) (le16 bytes (pe_place bytes + 6)) (le32 bytes (pe_place bytes + 8));
      extent = DOS_SIZE;
    })
    else None

-- the executable's header at the place: that of ELF, or else that of PE
unfoldable pub exec_of : Around → Option Header
exec_of look = option_or (elf_of look.after) (pe_of look.after)

-- ---- compressed files

-- a file that is noted by its signature alone
abbrev pub noted : List ℕ → List ℕ → List ℕ → Option Header
noted bytes signature text =
    if begins bytes signature then Some (record { text = text; extent = length signature }) else None

-- the two identifying bytes of gzip, and the method deflate (RFC 1952 section 2.3.1)
abbrev pub gzip_signature : List ℕ
gzip_signature = 0x1f ∷ 0x8b ∷ 8 ∷ []

-- the signature of a local file header of ZIP (APPNOTE.TXT section 4.3.7)
abbrev pub zip_signature : List ℕ
zip_signature = codes "PK" ++ 3 ∷ 4 ∷ []

-- the compressed file that begins at the place
unfoldable pub unread_of : Around → Option Header
unread_of look =
    option_or (noted look.after gzip_signature (codes "gzip")) (noted look.after zip_signature (codes "zip"))
