use Rattle.std.proofs.Common.{◌≡◌, ◌-◌}
use Rattle.scan_settings.specs.Fields.{behind_texts}
use Rattle.scan_settings.proofs.record_read.behind_texts.Given as goal

-- what is left ends as all does
abbrev pub invariant-loop-turn : goal.invariant-loop-turn
invariant-loop-turn l = behind_texts l.count l.bytes ≡ behind_texts (l.count - l.turn) l.rest
