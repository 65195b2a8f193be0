use Rattle.std.proofs.Common.{◌≡◌, ℕ, ◌+◌, ◌-◌, ◌<◌, ◌≤◌, length, get_or}
use Rattle.pattern_kit.specs.Matching.{length_at}
use Rattle.pattern_kit.proofs.search.fill_by_search.Given as goal

abbrev pub invariant-loop-done : goal.invariant-loop-done
invariant-loop-done g l = record {
  within : l.done ≤ length l.lens;
  same : g.S.Seeker.judged l.seeker ≡ g.S.Seeker.judged l.fn.seeker;
  seeks : g.S.Seeker.sought l.seeker ≡ g.S.Seeker.sought l.fn.seeker;
  behind : (k : ℕ) → k < l.done → get_or l.lens k 0 ≡ length_at (g.S.Seeker.judged l.fn.seeker) l.bytes (l.from + k);
  ahead : (k : ℕ) → l.done ≤ k → get_or l.lens k 0 ≡ 0;
}

abbrev pub decreases-loop-done : goal.decreases-loop-done
decreases-loop-done g l = length l.lens - l.done
