use Rattle.std.proofs.Common.{◌≡◌, ◌<◌, take, fold}
use Rattle.scan_settings.specs.Settings.{texts, switched, scanners_default}
use Rattle.scan_settings.proofs.settings.scanners_given.Given as goal

-- the options passed are applied
abbrev pub invariant-loop-at : goal.invariant-loop-at
invariant-loop-at l = record {
  applied : l.scanners ≡ fold (switched (texts l.words)) scanners_default (take l.at-index l.options);
  below : l.scanners < 1024;
}
