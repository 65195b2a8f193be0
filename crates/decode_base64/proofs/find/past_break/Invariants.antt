use Rattle.byte_kit.specs.Classes.{base64_class}
use Rattle.sbuf_nest.specs.Runs.{NoRowFrom}
use Rattle.decode_base64.specs.declared.TheConstants.{LINE_LEAST}
use Rattle.decode_base64.proofs.find.past_break.Given as goal

-- no run begins at the places passed
abbrev pub invariant-loop-place : goal.invariant-loop-place
invariant-loop-place l = NoRowFrom base64_class LINE_LEAST l.bytes l.next l.place
