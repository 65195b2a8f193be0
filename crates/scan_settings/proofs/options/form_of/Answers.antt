use Rattle.scan_settings.specs.Options.{form_of}
use Rattle.scan_settings.proofs.options.form_of.Goals as goal

pub returns : goal.returns
unfolding form_of
returns c = c.form_in.ensures
