use Rattle.std.proofs.Common.{◌∙◌, ap, sym, get_or, set, arith}
use Rattle.std.specs.Prelude.{bit_xor}
use Rattle.std.proofs.lemmas.Grind.{get_or_default_zero}
use Rattle.std.proofs.lemmas.List.Edits.{map_over_more}
use Rattle.std.proofs.lemmas.Nat.{xor_comm}
use Rattle.decode_views.proofs.xor.mask_all.Goals as goal

pub loop-byte-preserved : goal.loop-byte-preserved
loop-byte-preserved c =
    let bytes = c.loop-byte.bytes in
    let place = c.loop-byte.byte-index in
    let byte = get_or bytes place 0 in
    ap (set bytes place) (xor_comm byte c.args.mask)
    ∙ map_over_more (bit_xor c.args.mask) c.args.bytes.now bytes place byte (omega (arith, c.loop-byte-test.true, c.loop-byte.auto.byte-index-end)) c.loop-byte.invariant
    (sym (get_or_default_zero bytes place byte (omega (arith, c.loop-byte-test.true, c.loop-byte.auto.byte-index-end, c.loop-byte.auto.bytes))))
