-- The bytes ahead of the first dash are the top of each path that has the text, and the rest is its steps' text.
use Rattle.std.proofs.Common.{arith, sym, ◌∙◌}
use Rattle.std.proofs.lemmas.Result.{err_from_is_err_and}
use Rattle.std.proofs.lemmas.Fmt.{decimal_injective}
use Rattle.forensic_path.proofs.OnePath.{path_front, path_whole, path_of}
use Rattle.forensic_path.proofs.Reading.{path_fault, path_deep}
use Rattle.forensic_path.proofs.read.path_read.Goals as goal

pub returns-in_default-clause-read : goal.returns-in_default-clause-read
returns-in_default-clause-read c = λ path has.
    c.in_default.ensures.none path.top has.lawful.top (path_front path c.cut_at_dash.ensures has).0

pub returns-in_err-steps-clause-read : goal.returns-in_err-steps-clause-read
returns-in_err-steps-clause-read c =
    let err = err_from_is_err_and c.from_residual.result c.from_residual.ensures.1 in
    rw (err.1, err.2) (λ path has.
    let front = path_front path c.cut_at_dash.ensures has in
    path_fault path c.in_err-steps.field-0.0 (c.in_err-steps.ensures.read path.steps front.1))

pub returns-in_err-steps-clause-deep : goal.returns-in_err-steps-clause-deep
returns-in_err-steps-clause-deep c =
    let err = err_from_is_err_and c.from_residual.result c.from_residual.ensures.1 in
    let top = c.in-Some.ensures.value in
    rw (err.1, err.2)
    (path_deep c.in-Some.top c.in_err-steps.field-0.0 (omega arith) top c.cut_at_dash.ensures c.in_err-steps.ensures.deep)

pub returns-clause-ok : goal.returns-clause-ok
returns-clause-ok c =
    let top = c.in-Some.ensures.value in
    path_whole c.in-Some.top c.in_ok-steps.steps (omega arith) top c.in_ok-steps.ensures.ok c.cut_at_dash.ensures

pub returns-clause-read : goal.returns-clause-read
returns-clause-read c = λ path has.
    let front = path_front path c.cut_at_dash.ensures has in
    let top = decimal_injective c.in-Some.top path.top (omega arith) has.lawful.top (c.in-Some.ensures.value ∙ sym front.0) in
    let steps = c.in_ok-steps.ensures.read path.steps front.1 in
    path_of c.in-Some.top path.top c.in_ok-steps.steps path.steps top steps
