use Rattle.triage_run.proofs.AfterText.{line_put}
use Rattle.triage_run.proofs.text.print_end.Goals as goal

pub returns-in-Err-clause-printed : goal.returns-in-Err-clause-printed
returns-in-Err-clause-printed g c =
    let refused = rw c.in-Err.is at c.requires.refused in
    rw c.in-Err.is (line_put _ _ c.in-Err.refusal refused c.print_line.ensures.printed)
