use Rattle.std.proofs.Common.{◌≡◌, drop}
use Rattle.std.specs.List.{list_all}
use Rattle.scan_settings.specs.Values.{is_text}
use Rattle.scan_settings.proofs.record_read.are_texts.Given as goal

-- what is left decides
abbrev pub invariant-loop-text : goal.invariant-loop-text
invariant-loop-text l = list_all is_text l.texts ≡ list_all is_text (drop l.text-index l.texts)
