-- Where a search for keywords looks closer: by the first three bytes from a place on.
use Rattle.std.specs.Prelude.{◌≡◌, ℕ, ◌+◌, ◌/◌, ◌%◌, ◌<◌, ◌≤◌, Bool, not, ◌==◌, List, length, slice_index, slice_index_or, bit_and, None}
use Rattle.std.specs.Int.{bit_at}
use Rattle.sbuf_nest.specs.Around.{look_at}
use Rattle.scan_find.specs.Find.{keyword_of}
use Rattle.scan_find.specs.declared.front.Front.{Front}
use Rattle.scan_find.specs.declared.byte_table.ByteTable.{ByteTable}

-- the buckets that let a byte pass, a bit each: those that let both of its halves pass
abbrev pub buckets_of : ByteTable → ℕ → ℕ
buckets_of table byte = bit_and (slice_index table.low (byte % 16)) (slice_index table.high (byte / 16))

-- the buckets that let all three bytes pass
abbrev pub buckets_at : Front → List ℕ → ℕ → ℕ
buckets_at front bytes place =
    bit_and (bit_and (buckets_of front.first (slice_index bytes place)) (buckets_of front.second (slice_index bytes (place + 1))))
    (buckets_of front.third (slice_index bytes (place + 2)))

-- a keyword may stand at the place: there is such a bucket
unfoldable pub may_stand : Front → List ℕ → ℕ → Bool
may_stand front bytes place = not (buckets_at front bytes place == 0)

-- the bucket of a keyword, by its first byte
abbrev pub bucket_of : List ℕ → ℕ
bucket_of keyword = slice_index keyword 0 % 8

-- both halves of the byte pass in the bucket
pub record LetsPass (table : ByteTable) (byte bucket : ℕ) : Type 0 where
  pub low : bit_at (slice_index table.low (byte % 16)) bucket ≡ 1
  pub high : bit_at (slice_index table.high (byte / 16)) bucket ≡ 1

-- in the keyword's bucket its byte passes, or any byte where it is too short to have one
abbrev pub LetsByte : ByteTable → List ℕ → ℕ → Type 0
LetsByte table keyword at =
    (byte : ℕ) → byte < 256 → (at < length keyword → byte ≡ slice_index keyword at) → LetsPass table byte (bucket_of keyword)

-- the keyword passes, wherever it stands
pub record LetsKeyword (front : Front) (keyword : List ℕ) : Type 0 where
  pub first : LetsByte front.first keyword 0
  pub second : LetsByte front.second keyword 1
  pub third : LetsByte front.third keyword 2

-- what passes a table passes another
abbrev pub PassesMore : ByteTable → ByteTable → Type 0
PassesMore old new = (byte bucket : ℕ) → LetsPass old byte bucket → LetsPass new byte bucket

-- no keyword stands at a place from the first up to the end
abbrev pub NoneStands : List (List ℕ) → List ℕ → ℕ → ℕ → Type 0
NoneStands keywords bytes first end =
    (place k : ℕ) (d : List ℕ) → first ≤ place → place < end → k < length keywords → keyword_of (slice_index_or keywords k d) (look_at bytes place) ≡ None
