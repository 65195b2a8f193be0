use Rattle.decode_hex.proofs.Digits.{digit_read}
use Rattle.decode_hex.proofs.value.digit_number.Goals as goal

pub returns-clause-number : goal.returns-clause-number
returns-clause-number c = (digit_read c.args.digit c.ranges.digit.fits c.requires).0

pub returns-clause-below : goal.returns-clause-below
returns-clause-below c =
    let read = digit_read c.args.digit c.ranges.digit.fits c.requires in
    rw read.0 read.1
