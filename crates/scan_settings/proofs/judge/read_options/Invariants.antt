use Rattle.std.proofs.Common.{◌≡◌, ◌≤◌, ◌++◌, ◌-◌, false, [], length, drop}
use Rattle.scan_settings.specs.Settings.{texts}
use Rattle.scan_settings.specs.Words.{options_in, place_in, options_from, place_from, options_fault}
use Rattle.scan_settings.proofs.judge.read_options.Given as goal

-- the options passed are lawful, and what is left decides
abbrev pub invariant-loop-at : goal.invariant-loop-at
invariant-loop-at l = record {
  judged : options_fault l.action (texts l.words) [] (options_in (texts l.words))
      ≡ options_fault l.action (texts l.words) l.numbers.items (options_from l.at false (drop l.at (texts l.words)));
  options : options_in (texts l.words) ≡ l.numbers.items ++ options_from l.at false (drop l.at (texts l.words));
  place : place_in (texts l.words) ≡ place_from l.at false (drop l.at (texts l.words));
  within : l.at ≤ length l.words;
}

abbrev pub decreases-loop-at : goal.decreases-loop-at
decreases-loop-at l = length l.words - l.at
