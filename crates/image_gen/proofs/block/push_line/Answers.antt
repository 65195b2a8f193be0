use Rattle.image_gen.proofs.Appended.{three_appended}
use Rattle.image_gen.proofs.block.push_line.Goals as goal

pub returns : goal.returns
returns c =
    three_appended _ _ _ _ _ _ _ c.in_ok-extend_from_slice.ensures.items
    (rw c.url_of.ensures at c.in_ok-extend_from_slice-2.ensures.items) c.in_ok-extend_from_slice-3.ensures.items
