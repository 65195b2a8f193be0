-- Numbers of two, four and eight bytes: from the bytes at a place, and as bytes.
use Rattle.std.specs.Prelude.{ℕ, ◌+◌, ◌*◌, ◌/◌, ◌%◌, ◌^◌, List, [], ◌∷◌, ◌++◌, slice_index}

-- two bytes from a place on as a number, the high one first
abbrev pub be16 : List ℕ → ℕ → ℕ
be16 bytes at = 256 * slice_index bytes at + slice_index bytes (at + 1)

-- four bytes from a place on as a number, the high one first
abbrev pub be32 : List ℕ → ℕ → ℕ
be32 bytes at = 65536 * be16 bytes at + be16 bytes (at + 2)

-- two bytes from a place on as a number, the low one first
abbrev pub le16 : List ℕ → ℕ → ℕ
le16 bytes at = slice_index bytes at + 256 * slice_index bytes (at + 1)

-- four bytes from a place on as a number, the low one first
abbrev pub le32 : List ℕ → ℕ → ℕ
le32 bytes at = le16 bytes at + 65536 * le16 bytes (at + 2)

-- eight bytes from a place on as a number, the low one first
abbrev pub le64 : List ℕ → ℕ → ℕ
le64 bytes at = le32 bytes at + 2 ^ 32 * le32 bytes (at + 4)

-- a number below 2^16 as two bytes, the low one first
abbrev pub le16_bytes : ℕ → List ℕ
le16_bytes number = (number % 256) ∷ (number / 256 % 256) ∷ []

-- a number below 2^32 as four bytes, the low one first
abbrev pub le32_bytes : ℕ → List ℕ
le32_bytes number = le16_bytes number ++ le16_bytes (number / 65536)

-- a number below 2^64 as eight bytes, the low one first
abbrev pub le64_bytes : ℕ → List ℕ
le64_bytes number = le32_bytes number ++ le32_bytes (number / 2 ^ 32)
