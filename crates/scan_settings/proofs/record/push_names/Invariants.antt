use Rattle.std.proofs.Common.{◌≡◌, ◌++◌, length, take}
use Rattle.std.specs.List.{flat_map}
use Rattle.byte_kit.specs.Numbers.{le16_bytes}
use Rattle.scan_settings.specs.Record.{text_bytes}
use Rattle.scan_settings.proofs.record.push_names.Given as goal

-- the names passed are appended
abbrev pub invariant-loop-name : goal.invariant-loop-name
invariant-loop-name l = l.into.items ≡ l.fn.into.items ++ (le16_bytes (length l.names) ++ flat_map text_bytes (take l.name-index l.names))
