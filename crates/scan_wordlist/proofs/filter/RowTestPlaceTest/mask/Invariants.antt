use Rattle.std.proofs.Common.{◌≡◌, map}
use Rattle.std.specs.List.{range_with_len}
use Rattle.scan_wordlist.proofs.Distances.{farthest}
use Rattle.scan_wordlist.proofs.filter.RowTestPlaceTest.mask.Given as goal

-- the farthest of the bytes so far
abbrev pub invariant-loop-more : goal.invariant-loop-more
invariant-loop-more g l = l.farthest ≡ map (farthest l.bytes l.more) (range_with_len l.at 16)
