use Rattle.std.proofs.Common.{sym}
use Rattle.stop_lists.proofs.Cuts.{cut_first, cut_none}
use Rattle.stop_lists.proofs.line.cut_at.Goals as goal

pub returns-in_err-at-clause-none : goal.returns-in_err-at-clause-none
returns-in_err-at-clause-none c = rw c.from_residual.ensures (cut_none c.args.mark c.args.text.now (sym c.in_err-at.ensures))

pub returns-clause-some : goal.returns-clause-some
returns-clause-some c =
    rw (c.split_at.ensures.front, c.split_at-2.ensures.back, c.split_at.ensures.back)
    (cut_first c.args.mark c.args.text.now c.in_ok-at.at (sym c.in_ok-at.ensures))
