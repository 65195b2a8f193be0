use Rattle.scan_find.specs.Hits.{HitsMore, HitsRows}
use Rattle.scan_find.proofs.hits.hit_rows.Given as goal

-- the places of the rows passed are hit
abbrev pub invariant-loop-k : goal.invariant-loop-k
invariant-loop-k l = record {
  kept : HitsMore l.fn.hits l.hits;
  hit : HitsRows l.rows l.k l.hits;
}
