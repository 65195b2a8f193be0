use Rattle.std.proofs.Common.{◌≡◌, ℕ, ◌+◌, ◌*◌, ◌≤◌, drop}
use Rattle.std.specs.Prelude.{fold, sum}
use Rattle.scan_net.specs.Packet.{words_of}
use Rattle.scan_net.proofs.checksum.word_sum.Given as goal

abbrev pub invariant-loop-i : goal.invariant-loop-i
invariant-loop-i l = record {
  bound : l.sum ≤ 65535 * l.i;
  rest : fold (λ (a x : ℕ). a + x) l.sum (words_of (drop (2 * l.i) l.header)) ≡ sum (words_of l.header);
}
