use Rattle.std.proofs.Common.{arith, ap, ◌∙◌}
use Rattle.byte_kit.specs.Places.{put}
use Rattle.host_disk.specs.Contents.{contents}
use Rattle.host_disk.proofs.ContentsLemmas.{contents-set}
use Rattle.host_disk.proofs.medium.Medium.set.Goals as goal

pub returns-clause-set : goal.returns-clause-set
returns-clause-set c =
    let grown = c.in_ok-grow_to.ensures in
    contents-set c.args.self.now c.grow_to.new.files.items c.args.file c.in_ok-content.content
    (grown.same ∙ ap contents c.self.view_is) (omega (arith, grown.enough))
    ∙ ap (λ bytes. put (contents c.args.self.now) c.args.file bytes) c.in_ok-content.ensures
