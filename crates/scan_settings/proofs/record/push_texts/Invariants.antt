use Rattle.std.proofs.Common.{◌≡◌, ◌++◌, length, take}
use Rattle.std.specs.List.{flat_map}
use Rattle.byte_kit.specs.Numbers.{le16_bytes}
use Rattle.scan_settings.specs.Record.{text_bytes}
use Rattle.scan_settings.proofs.record.push_texts.Given as goal

-- the texts passed are appended
abbrev pub invariant-loop-text : goal.invariant-loop-text
invariant-loop-text l = l.into.items ≡ l.fn.into.items ++ (le16_bytes (length l.texts) ++ flat_map text_bytes (take l.text-index l.texts))
