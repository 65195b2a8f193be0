use Rattle.std.proofs.Common.{arith}
use Rattle.std.proofs.lemmas.List.{length-take}
use Rattle.decode_hex.proofs.Digits.{IsText-within, IsText-digits, IsText-even}
use Rattle.decode_hex.proofs.value.hex_value.Goals as goal

pub slice_bounds-digits-end : goal.slice_bounds-digits-end
slice_bounds-digits-end c =
    omega (arith, length-take c.args.extent.bytes c.args.after.now, IsText-within c.args.after.now c.args.extent c.requires.given)

pub decode_into-requires-clause-digits : goal.decode_into-requires-clause-digits
decode_into-requires-clause-digits c = IsText-digits c.args.after.now c.args.extent c.requires.given

pub decode_into-requires-clause-room : goal.decode_into-requires-clause-room
decode_into-requires-clause-room c =
    omega (
      arith,
      length-take c.args.extent.bytes c.args.after.now,
      IsText-within c.args.after.now c.args.extent c.requires.given,
      IsText-even c.args.after.now c.args.extent c.requires.given,
      c.as_mut_slice.ensures.len,
      c.in_ok-resize.ensures.len,
    )
