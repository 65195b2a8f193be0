use Rattle.std.proofs.Common.{◌≡◌, take, codes}
use Rattle.scan_settings.specs.Settings.{texts, values_given}
use Rattle.scan_settings.proofs.settings.patterns_given.Given as goal

-- the patterns are those of the options passed
abbrev pub invariant-loop-at : goal.invariant-loop-at
invariant-loop-at l = l.patterns ≡ values_given (texts l.words) (take l.at-index l.options) (codes "--pattern")
