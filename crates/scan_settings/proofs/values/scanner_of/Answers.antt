use Rattle.scan_settings.specs.Values.{scanner_of}
use Rattle.scan_settings.proofs.values.scanner_of.Goals as goal

pub returns : goal.returns
unfolding scanner_of
returns c = c.scanner_in.ensures
