use Rattle.std.proofs.Common.{◌≡◌, ◌∙◌, ℕ, ◌+◌, ◌*◌, drop, sym, ap, arith}
use Rattle.std.specs.Prelude.{fold}
use Rattle.byte_kit.specs.Numbers.{be16}
use Rattle.scan_net.specs.Packet.{words_of}
use Rattle.scan_net.proofs.PlainSum.{words_more, words_end}
use Rattle.scan_net.proofs.checksum.word_sum.Goals as goal

pub loop-i-preserved : goal.loop-i-preserved
loop-i-preserved c =
    let header = c.args.header.now in
    let at : ℕ = 2 * c.loop-i.i in
    let behind : 2 * (c.loop-i.i + 1) ≡ at + 2 = omega arith in
    let word : be16 header at ≡ c.from-sum.result = cc in
    record {
      bound = omega arith;
      rest =
          ap (λ (k : ℕ). fold (λ (a x : ℕ). a + x) (c.loop-i.sum + c.from-sum.result) (words_of (drop k header))) behind
          ∙ ap (λ (w : ℕ). fold (λ (a x : ℕ). a + x) (c.loop-i.sum + w) (words_of (drop (at + 2) header))) (sym word)
          ∙ ap (fold (λ (a x : ℕ). a + x) c.loop-i.sum) (sym (words_more header at (omega arith)))
          ∙ c.loop-i.invariant.rest;
    }

pub returns : goal.returns
returns c =
    ap (fold (λ (a x : ℕ). a + x) c.loop-i.sum) (sym (words_end c.args.header.now (2 * c.loop-i.i) (omega arith)))
    ∙ c.loop-i.invariant.rest
