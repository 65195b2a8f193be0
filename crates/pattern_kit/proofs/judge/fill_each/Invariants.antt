use Rattle.std.proofs.Common.{◌≡◌, ℕ, ◌+◌, ◌<◌, get_or}
use Rattle.pattern_kit.specs.Matching.{length_at}
use Rattle.pattern_kit.proofs.judge.fill_each.Given as goal

abbrev pub invariant-loop-at : goal.invariant-loop-at
invariant-loop-at g l = record {
  same : g.J.Judge.judged l.judge ≡ g.J.Judge.judged l.fn.judge;
  done : (k : ℕ) → k < l.at → get_or l.lens k 0 ≡ length_at (g.J.Judge.judged l.fn.judge) l.bytes (l.from + k);
}
