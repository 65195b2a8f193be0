use Rattle.std.proofs.Common.{◌≡◌, ◌∙◌, ◌+◌, take, sym, ap, arith}
use Rattle.image_source.specs.declared.attach.Part.{Part}
use Rattle.image_source.specs.Image.{size_of}
use Rattle.image_source.specs.Inside.{slots_of}
use Rattle.image_source.proofs.PartLemmas.{size_more, size_most}
use Rattle.image_source.proofs.parts.size_of.Goals as goal

pub overflow_add-size : goal.overflow_add-size
overflow_add-size c =
    let most = size_most c.args.parts.now c.loop-part.part-index c.part-item.result c.loop-part-test.true in
    let so_far : c.loop-part.size ≡ size_of (take c.loop-part.part-index (slots_of c.args.parts.now)) = c.loop-part.invariant in
    let same = ap (λ (part : Part). part.size) c.part-item.is in
    omega (arith, most, so_far, same, c.requires.small)

pub loop-part-preserved : goal.loop-part-preserved
loop-part-preserved c =
    let so_far : c.loop-part.size ≡ size_of (take c.loop-part.part-index (slots_of c.args.parts.now)) = c.loop-part.invariant in
    ap (λ n. n + c.part-item.result.size) so_far
    ∙ ap (λ n. size_of (take c.loop-part.part-index (slots_of c.args.parts.now)) + n) (ap (λ (part : Part). part.size) c.part-item.is)
    ∙ sym (size_more c.args.parts.now c.loop-part.part-index c.part-item.result c.loop-part-test.true)
