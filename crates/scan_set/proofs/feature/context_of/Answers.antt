use Rattle.std.proofs.Common.{◌≡◌, ◌∙◌, ◌+◌, ◌-◌, min, length, sym}
use Rattle.std.specs.Prelude.{slice_range}
use Rattle.sbuf_nest.specs.Around.{look_at}
use Rattle.sbuf_nest.specs.declared.look.TheConstants.{LOOK_BEFORE, LOOK_AFTER}
use Rattle.scan_set.proofs.Contexts.{one_part}
use Rattle.scan_set.proofs.feature.context_of.Goals as goal

pub returns : goal.returns
unfolding look_at
returns c =
    let bytes = c.args.sb.now.bytes.now in
    let part : c.part-part.result.now ≡ slice_range bytes (c.args.at - min (min c.args.at LOOK_BEFORE) c.args.reach)
    (c.args.at + min (min (c.args.extent + c.args.reach) LOOK_AFTER) (length bytes - c.args.at)) =
    rw (c.min-2.ensures, c.min-behind.ensures, c.min-ahead.ensures, c.min.ensures, c.len.ensures) at c.part-part.ensures in
    let is = part ∙ one_part bytes c.args.at c.requires LOOK_BEFORE LOOK_AFTER c.args.reach (c.args.extent + c.args.reach) in
    rw (sym is) c.copy.ensures
