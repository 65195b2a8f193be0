use Rattle.std.proofs.Common.{◌≡◌, ◌++◌, ◌-◌}
use Rattle.scan_settings.specs.Fields.{texts_at}
use Rattle.scan_settings.proofs.record_read.texts_at.Given as goal

-- the texts passed are read, and what is left has the others
abbrev pub invariant-loop-turn : goal.invariant-loop-turn
invariant-loop-turn l = texts_at l.count l.bytes ≡ l.texts ++ texts_at (l.count - l.turn) l.rest
