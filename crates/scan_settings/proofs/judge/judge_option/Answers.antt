use Rattle.std.proofs.Common.{refl}
use Rattle.scan_settings.proofs.Steps.{bad_name, bad_value}
use Rattle.scan_settings.proofs.judge.judge_option.Goals as goal

pub returns-in-Some-clause-bad : goal.returns-in-Some-clause-bad
returns-in-Some-clause-bad c =
    bad_name _ _ _ _ _ _ _ c.in-Some.why c.word_at-name.ensures c.form_of-form.ensures refl c.in-Some.ensures

pub returns-in-Some-value_fault-clause-bad : goal.returns-in-Some-value_fault-clause-bad
returns-in-Some-value_fault-clause-bad c =
    bad_value _ _ _ _ _ _ _ c.in-Some-value_fault.bad c.word_at-name.ensures c.form_of-form.ensures refl c.in_default.ensures
    c.in-Some-value_fault.ensures
