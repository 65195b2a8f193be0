use Rattle.std.proofs.Common.{◌≡◌, take}
use Rattle.scan_settings.specs.Settings.{texts}
use Rattle.scan_settings.proofs.words.names_of.Given as goal

-- the words passed are the names
abbrev pub invariant-loop-word : goal.invariant-loop-word
invariant-loop-word l = l.names ≡ texts (take l.word-index l.words)
