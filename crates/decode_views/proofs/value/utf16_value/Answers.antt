use Rattle.std.proofs.Common.{arith}
use Rattle.decode_views.proofs.Pairs.{IsText-bytes, IsText-within}
use Rattle.decode_views.proofs.value.utf16_value.Goals as goal

pub split_at-requires : goal.split_at-requires
split_at-requires c = IsText-within c.args.after.now c.args.extent c.requires.given

pub first_bytes-requires : goal.first_bytes-requires
first_bytes-requires c = record {
  room = omega (arith, IsText-bytes c.args.after.now c.args.extent c.requires.given, c.split_at.ensures.front_len, c.in_ok-resize.ensures.len, c.as_mut_slice.ensures.len);
}
