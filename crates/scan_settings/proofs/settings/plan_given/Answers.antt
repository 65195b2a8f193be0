use Rattle.scan_settings.proofs.Given.{plan_by}
use Rattle.scan_settings.proofs.settings.plan_given.Goals as goal

pub returns : goal.returns
returns c = plan_by _ _ _ _ _ _ _ _ _ _ c.scanners_given.ensures.given c.number_given.ensures.number c.number_given-2.ensures.number c.number_given-3.ensures.number
    c.number_given-4.ensures.number c.number_given-5.ensures.number c.in_ok-keywords_given.ensures c.in_ok-patterns_given.ensures
