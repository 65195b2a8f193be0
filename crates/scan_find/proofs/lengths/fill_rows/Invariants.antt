use Rattle.std.proofs.Common.{◌≡◌, ◌-◌, ◌<◌, ℕ, List, Option, map}
use Rattle.std.specs.Prelude.{slice_index_or}
use Rattle.scan_find.specs.Lengths.{IsRow}
use Rattle.scan_find.specs.declared.lengths.Row.{Row}
use Rattle.scan_find.proofs.lengths.fill_rows.Given as goal

-- the rows passed are those of their patterns
abbrev pub invariant-loop-k : goal.invariant-loop-k
invariant-loop-k g l = record {
  same : map g.M.Matcher.reading l.matchers ≡ map g.M.Matcher.reading l.fn.matchers;
  rows : (k : ℕ) (pattern : List ℕ → Option ℕ) (row : Row) → k < l.k →
      IsRow (slice_index_or (map g.M.Matcher.matches (map g.M.Matcher.reading l.fn.matchers)) k pattern) l.bytes l.places.from (l.places.to - l.places.from)
      (slice_index_or l.rows k row);
}
