use Rattle.std.proofs.Common.{◌≡◌, ◌≤◌, take}
use Rattle.scan_settings.specs.Settings.{texts}
use Rattle.scan_settings.specs.Words.{count_named}
use Rattle.scan_settings.proofs.judge.count_named.Given as goal

-- those of the options passed are counted
abbrev pub invariant-loop-at : goal.invariant-loop-at
invariant-loop-at l = record {
  counted : l.count ≡ count_named (texts l.words) (take l.at-index l.options) l.name;
  few : l.count ≤ l.at-index;
}
