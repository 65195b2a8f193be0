use Rattle.std.proofs.Common.{arith, ◌≤◌, length, ap, ◌∙◌, subst, sym}
use Rattle.byte_kit.specs.Places.{put}
use Rattle.host_disk.specs.Files.{written}
use Rattle.host_disk.specs.Contents.{contents}
use Rattle.host_disk.proofs.ContentsLemmas.{contents-set, is_content}
use Rattle.host_disk.proofs.medium.Medium.write_at.Goals as goal

pub write_at-requires-clause-within : goal.write_at-requires-clause-within
write_at-requires-clause-within c =
    let grown = c.in_ok-grow_to.ensures in
    let same = grown.same ∙ ap contents c.self.view_is in
    let file_is = is_content c.args.self.now c.grow_to.new.files.items c.args.file c.index_mut.result.now
    same (omega (arith, grown.enough)) c.index_mut.ensures.value in
    subst (λ bytes. c.args.at ≤ length bytes) (sym file_is) c.requires.within

pub returns-clause-written : goal.returns-clause-written
returns-clause-written c =
    let grown = c.in_ok-grow_to.ensures in
    let same = grown.same ∙ ap contents c.self.view_is in
    let file_is = is_content c.args.self.now c.grow_to.new.files.items c.args.file c.index_mut.result.now
    same (omega (arith, grown.enough)) c.index_mut.ensures.value in
    contents-set c.args.self.now c.grow_to.new.files.items c.args.file c.write_at.new.self
    same (omega (arith, grown.enough))
    ∙ ap (λ bytes. put (contents c.args.self.now) c.args.file bytes)
    (c.in_ok-write_at.ensures.written ∙ ap (λ bytes. written c.args.at c.args.bytes.now bytes) file_is)
