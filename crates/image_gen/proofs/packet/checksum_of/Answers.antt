use Rattle.std.proofs.Common.{◌≡◌, ◌∙◌, ℕ, ◌-◌, ◌*◌, ◌/◌, length, ap, arith}
use Rattle.byte_kit.specs.Numbers.{be16}
use Rattle.image_gen.specs.Packet.{add_words, checksum_of}
use Rattle.image_gen.proofs.Steps.{fold_range_more}
use Rattle.image_gen.proofs.packet.checksum_of.Goals as goal

pub loop-at-preserved : goal.loop-at-preserved
loop-at-preserved c =
    let more = fold_range_more add_words (λ (number : ℕ). be16 c.args.header.now (2 * number)) c.loop-at.at in
    rw more (c.add_words-sum.ensures ∙ ap (λ (word : ℕ). add_words c.loop-at.sum word) c.word.ensures
    ∙ ap (λ (sum : ℕ). add_words sum (be16 c.args.header.now (2 * c.loop-at.at))) c.loop-at.invariant)

pub returns : goal.returns
unfolding checksum_of
returns c =
    let all : c.loop-at.at ≡ length c.args.header.now / 2 = omega arith in
    ap (λ (sum : ℕ). 65535 - sum) (rw all at c.loop-at.invariant)
