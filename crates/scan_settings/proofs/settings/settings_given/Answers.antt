use Rattle.std.proofs.Common.{ap, ◌∙◌, is_some}
use Rattle.scan_settings.proofs.Given.{settings_by}
use Rattle.scan_settings.proofs.settings.settings_given.Goals as goal

pub returns : goal.returns
returns c = settings_by _ _ _ _ _ _ _ _ _ _ c.number_given.ensures.number c.number_given-2.ensures.number c.number_given-3.ensures.number
    c.in_ok-plan_given.ensures c.in_ok-value_given.ensures c.in_ok-value_given-2.ensures c.number_given-4.ensures.number
    (c.is_some.ensures ∙ ap is_some c.given_at.ensures)
