-- A lawful step is a dash, its decoder's name, a dash and its place; no other name or place is read there.
use Rattle.forensic_path.proofs.OnePath.{step_front, place_front}
use Rattle.forensic_path.proofs.read.step_read.Goals as goal

pub returns-in_err-by-clause-none : goal.returns-in_err-by-clause-none
returns-in_err-by-clause-none c = rw c.from_residual-in_err-by.ensures (λ step rest lawful follows is.
    let front = step_front step rest lawful c.in_ok-behind_dash.ensures.some c.cut_at_dash.ensures is in
    c.in_err-by.ensures.none step.by lawful.decoder front.0)

pub returns-in_err-at-clause-none : goal.returns-in_err-at-clause-none
returns-in_err-at-clause-none c = rw c.from_residual-in_err-at.ensures (λ step rest lawful follows is.
    let front = step_front step rest lawful c.in_ok-behind_dash.ensures.some c.cut_at_dash.ensures is in
    let at = place_front step rest lawful follows front.1 c.in_ok-behind_dash-2.ensures.some c.cut_at_dash-2.ensures in
    c.in_err-at.ensures.none step.at lawful.place at)
