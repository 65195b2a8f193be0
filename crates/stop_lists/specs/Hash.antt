-- The hash of an entry: FNV-1a with 64 bits (Fowler, Noll and Vo) of the bytes of its feature and its context.
use Rattle.std.specs.Prelude.{ℕ, ◌*◌, ◌/◌, ◌%◌, ◌^◌, Option, List, [], ◌++◌, unwrap_or, bit_xor}
use Rattle.std.specs.List.{fold}
use Rattle.stop_lists.specs.Lists.{Entry}

-- the hash of no bytes
abbrev pub hash_start : ℕ
hash_start = 14695981039346656037

-- one more byte
unfoldable pub hash_step : ℕ → ℕ → ℕ
hash_step hash byte = bit_xor hash byte * 1099511628211 % 2 ^ 64

-- more bytes
abbrev pub hash_more : ℕ → List ℕ → ℕ
hash_more hash bytes = fold hash_step hash bytes

-- the hash of the bytes
abbrev pub hash_of : List ℕ → ℕ
hash_of bytes = hash_more hash_start bytes

-- the bytes by which an entry is found
abbrev pub key_of : List ℕ → Option (List ℕ) → List ℕ
key_of feature context = feature ++ unwrap_or context []

-- the hash of an entry
abbrev pub entry_hash : Entry → ℕ
entry_hash entry = hash_of (key_of entry.feature entry.context)

-- the bucket of a hash, among so many: its halves are laid over each other, and the rest is taken
unfoldable pub home_of : ℕ → ℕ → ℕ
home_of hash count = bit_xor hash (hash / 2 ^ 32) % count
