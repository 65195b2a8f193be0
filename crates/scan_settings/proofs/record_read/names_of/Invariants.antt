use Rattle.std.proofs.Common.{◌≡◌, take}
use Rattle.std.specs.List.{All}
use Rattle.std.specs.Str.{IsUtf8}
use Rattle.scan_settings.proofs.record_read.names_of.Given as goal

-- the texts passed are UTF-8, and are the names
abbrev pub invariant-loop-text : goal.invariant-loop-text
invariant-loop-text l = record {
  names : l.names ≡ take l.text-index l.texts;
  utf8 : All IsUtf8 (take l.text-index l.texts);
}
