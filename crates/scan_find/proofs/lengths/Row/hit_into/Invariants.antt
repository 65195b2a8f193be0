use Rattle.std.proofs.Common.{◌≡◌, ◌<◌, ℕ, slice_index}
use Rattle.scan_find.specs.Hits.{HitsMore}
use Rattle.scan_find.specs.Lengths.{length_of}
use Rattle.scan_find.proofs.lengths.Row.hit_into.Given as goal

-- the places passed are hit
abbrev pub invariant-loop-k : goal.invariant-loop-k
invariant-loop-k l = record {
  kept : HitsMore l.fn.hits l.hits;
  hit : (j : ℕ) → j < l.k → slice_index l.hits j ≡ 0 → length_of l.self j ≡ 0;
}
