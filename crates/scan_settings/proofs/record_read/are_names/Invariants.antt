use Rattle.std.proofs.Common.{◌≡◌, drop}
use Rattle.std.specs.List.{list_all}
use Rattle.scan_settings.specs.Values.{is_text}
use Rattle.scan_settings.proofs.record_read.are_names.Given as goal

-- what is left decides
abbrev pub invariant-loop-name : goal.invariant-loop-name
invariant-loop-name l = list_all is_text l.names ≡ list_all is_text (drop l.name-index l.names)
