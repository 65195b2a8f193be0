use Rattle.std.proofs.Common.{◌≡◌, ◌++◌, drop}
use Rattle.sbuf_nest.specs.Turns.{steps_from}
use Rattle.sbuf_nest.proofs.trail.Trail.path_at.Given as goal

-- the steps so far, and those of the turns that are left, are those of all
abbrev pub invariant-loop-turn : goal.invariant-loop-turn
invariant-loop-turn l = l.steps ++ steps_from l.by (drop l.turn-index l.rest) l.place ≡ steps_from l.first.by l.rest l.place
