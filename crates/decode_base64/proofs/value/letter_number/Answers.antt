use Rattle.decode_base64.proofs.Groups.{numbered}
use Rattle.decode_base64.proofs.value.letter_number.Goals as goal

pub returns-clause-number : goal.returns-clause-number
returns-clause-number c = (numbered c.args.letter c.requires).1

pub returns-clause-below : goal.returns-clause-below
returns-clause-below c =
    let read = numbered c.args.letter c.requires in
    rw read.1 read.0
