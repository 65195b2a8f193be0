use Rattle.std.proofs.Common.{◌∙◌, sym, arith}
use Rattle.scan_settings.proofs.Decimals.{number_some, number_none}
use Rattle.scan_settings.proofs.values.number_of.Goals as goal

pub returns-in_err-number : goal.returns-in_err-number
returns-in_err-number c =
    rw c.from_residual.ensures (number_none c.args.word.now (λ n small is. c.in_err-number.ensures.none n small (is ∙ sym c.as_bytes.ensures.value)))

pub returns : goal.returns
returns c = number_some c.args.word.now c.in_ok-number.number (omega arith) (c.in_ok-number.ensures.value ∙ c.as_bytes.ensures.value)
