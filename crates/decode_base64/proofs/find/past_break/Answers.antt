use Rattle.std.proofs.Common.{◌≡◌, false, arith}
use Rattle.std.specs.Prelude.{slice_index}
use Rattle.byte_kit.specs.Classes.{base64_class}
use Rattle.decode_base64.proofs.Texts.{none_more, none_at_lf, none_at_cr}
use Rattle.decode_base64.proofs.find.past_break.Goals.{else-bytes-place-ne13-via-then-bytes-place-ne13+else-bytes-place-ne10, else-bytes-place-ne13-via-else-bytes-place-ne13}
use Rattle.decode_base64.proofs.find.past_break.Goals as goal

pub loop-place-preserved : goal.loop-place-preserved
loop-place-preserved c =
    let bytes = c.args.bytes.now in
    let place = c.loop-place.place in
    let other : base64_class (slice_index bytes place) ≡ false = elim c.else-bytes-place-ne13.branch [
      | else-bytes-place-ne13-via-then-bytes-place-ne13+else-bytes-place-ne10 w ↦ none_at_lf (slice_index bytes place) (omega (arith, w.if-bytes-place-ne10.false))
      | else-bytes-place-ne13-via-else-bytes-place-ne13 w ↦ none_at_cr (slice_index bytes place) (omega (arith, w.if-bytes-place-ne13.false))
    ] in
    none_more bytes c.args.next place c.loop-place.invariant other
