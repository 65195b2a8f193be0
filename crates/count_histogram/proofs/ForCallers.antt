-- What a caller needs to count one more item.
use Rattle.std.proofs.Common.{arith, ℕ, ◌<◌, ◌^◌, List, length, bytes_eq}
use Rattle.std.proofs.lemmas.List.Sums.{count_by-le-length}
use Rattle.count_histogram.specs.declared.row.Row.{Row}
use Rattle.count_histogram.specs.Counts.{count_in, AreCounts}

-- among fewer than 2^63 items each stands fewer than 2^63 times
pub has_room : (rows : List Row) (items : List (List ℕ)) (item : List ℕ) → AreCounts rows items → length items < 2 ^ 63 → count_in rows item < 2 ^ 63
has_room rows items item counts few =
    let count = counts item in
    let most = count_by-le-length (bytes_eq item) items in
    omega arith
