use Rattle.std.proofs.Common.{◌≡◌, drop}
use Rattle.scan_settings.specs.Settings.{texts, given_at}
use Rattle.scan_settings.proofs.settings.given_at.Given as goal

-- the options passed have other names
abbrev pub invariant-loop-at : goal.invariant-loop-at
invariant-loop-at l = given_at (texts l.words) l.options l.name ≡ given_at (texts l.words) (drop l.at-index l.options) l.name
