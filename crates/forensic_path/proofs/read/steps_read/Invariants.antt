use Rattle.std.proofs.Common.{length, List}
use Rattle.forensic_path.specs.declared.path.Step.{Step}
use Rattle.forensic_path.proofs.Reading.{HasRead}
use Rattle.forensic_path.proofs.read.steps_read.Given as goal

-- some steps have been read, and the rest of the text is left
abbrev pub invariant-loop-rest : goal.invariant-loop-rest
invariant-loop-rest l = (done : List Step) × HasRead l.text done l.rest l.steps l.count

abbrev pub decreases-loop-rest : goal.decreases-loop-rest
decreases-loop-rest l = length l.rest
