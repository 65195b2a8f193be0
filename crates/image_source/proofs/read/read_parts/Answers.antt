use Rattle.std.proofs.Common.{◌≡◌, ◌∙◌, ◌+◌, ◌-◌, ◌<◌, ◌≤◌, ◌++◌, length, get_or, sym, ap, arith}
use Rattle.std.proofs.lemmas.List.{length-map}
use Rattle.host_source.specs.Source.{Reads}
use Rattle.image_source.specs.Image.{AreAttached}
use Rattle.image_source.specs.Inside.{slot_of, slots_of}
use Rattle.image_source.proofs.PartLemmas.{inside_small, size_at, size_more, size_most, slot_told, slot_within, read_more}
use Rattle.image_source.proofs.read.read_parts.Goals.{then-done-into+then-next-border+in_ok-read_at, else-done-into, else-done-into-via-then-done-into+else-next-border, else-done-into-via-else-done-into}
use Rattle.image_source.proofs.read.read_parts.Goals as goal

pub overflow_add-border : goal.overflow_add-border
overflow_add-border g c =
    let most = size_most c.args.parts.now c.loop-slot.slot c.index-parts-slot.result c.loop-slot-test.true in
    let small = inside_small _ c.args.parts.now c.requires.parts c.requires.most in
    let so_far = c.loop-slot.invariant.border in
    omega (arith, most, small, so_far)

pub overflow_add-next : goal.overflow_add-next
overflow_add-next g c =
    let small = inside_small _ c.args.parts.now c.requires.parts c.requires.most in
    omega (arith, small, c.requires.within, c.loop-slot.invariant.filled, c.loop-slot.invariant.room)

pub read_at-requires : goal.read_at-requires
read_at-requires g c =
    let lt : c.loop-slot.slot < length c.args.parts.now = c.loop-slot-test.true in
    let below : c.loop-slot.slot < length (slots_of c.args.parts.now) = rw (length-map c.args.parts.now slot_of) lt in
    let size = size_at c.args.parts.now c.loop-slot.slot c.index-parts-slot.result lt in
    let attached : AreAttached (g.S.Source.slots c.loop-slot.source) (slots_of c.args.parts.now) = rw c.loop-slot.invariant.slots c.requires.attached in
    let fits : c.args.at + c.loop-slot.done - c.loop-slot.border + length c.split_at_mut-here.result.0.now
    ≤ (get_or (slots_of c.args.parts.now) c.loop-slot.slot (slot_of c.index-parts-slot.result)).size =
    omega (arith, size, c.split_at_mut-here.ensures.front_len, c.split_at_mut-rest.ensures.back_len, c.min-count.ensures, c.if-next-border.true, c.if-done-into.true, c.loop-slot.invariant.ahead) in
    record { within = slot_within _ _ c.loop-slot.slot _ _ (slot_of c.index-parts-slot.result) attached below fits }

pub loop-slot-preserved : goal.loop-slot-preserved
loop-slot-preserved g c =
    let lt : c.loop-slot.slot < length c.args.parts.now = c.loop-slot-test.true in
    let more = size_more c.args.parts.now c.loop-slot.slot c.index-parts-slot.result lt in
    let below : c.loop-slot.slot < length (slots_of c.args.parts.now) = rw (length-map c.args.parts.now slot_of) lt in
    let border = ap (λ n. n + (get_or c.args.parts.now c.loop-slot.slot c.index-parts-slot.result).size) c.loop-slot.invariant.border ∙ sym more in
    elim c.if-done-into.branch [
      | then-done-into+then-next-border+in_ok-read_at w ↦
          let reads : Reads (g.S.Source.nature c.args.source.now) (g.S.Source.slots c.args.source.now) c.loop-slot.slot (c.args.at + c.loop-slot.done - c.loop-slot.border) w.read_at.new.into =
          rw (c.loop-slot.invariant.same, c.loop-slot.invariant.slots) at w.in_ok-read_at.ensures.ok in
          let size = size_at c.args.parts.now c.loop-slot.slot c.index-parts-slot.result lt in
          let long : length w.read_at.new.into ≡ w.min-count.result =
          omega (arith, w.read_at.auto.into, w.split_at_mut-here.ensures.front_len, w.split_at_mut-rest.ensures.back_len, w.min-count.ensures) in
          record {
            same = ap g.S.Source.nature w.source-is ∙ w.read_at.ensures.same ∙ c.loop-slot.invariant.same;
            slots = ap g.S.Source.slots w.source-is ∙ w.read_at.ensures.slots ∙ c.loop-slot.invariant.slots;
            sure = ap g.S.Source.faults w.source-is ∙ w.in_ok-read_at.ensures.cause.works ∙ c.loop-slot.invariant.sure;
            border = border;
            room = c.if-done-into.auto.into ∙ c.loop-slot.invariant.room;
            filled = omega (arith, w.done-is, w.min-count.ensures, c.if-done-into.auto.into, c.loop-slot.invariant.filled);
            ahead = omega (arith, w.done-is, w.min-count.ensures, w.if-next-border.true, c.if-done-into.auto.into, c.loop-slot.invariant.filled);
            read = rw w.done-is (read_more (g.S.Source.nature c.args.source.now) (slots_of c.args.parts.now) c.loop-slot.slot (slot_of c.index-parts-slot.result) c.args.at c.loop-slot.done w.min-count.result c.loop-slot.border
                c.loop-slot.into w.read_at.new.into w.split_at_mut-here.result.1.now c.if-done-into.into c.requires.parts below c.loop-slot.invariant.border
                (omega (arith, c.loop-slot.invariant.ahead, w.if-done-into.true))
                (omega (arith, size, w.min-count.ensures, w.if-next-border.true))
                long c.loop-slot.invariant.filled
                (slot_told (g.S.Source.nature c.args.source.now) (g.S.Source.slots c.args.source.now) (slots_of c.args.parts.now) c.loop-slot.slot (c.args.at + c.loop-slot.done - c.loop-slot.border) (slot_of c.index-parts-slot.result) w.read_at.new.into c.requires.attached below reads)
                (w.into-is ∙ ap (λ front. front ++ (w.read_at.new.into ++ w.split_at_mut-here.result.1.now)) w.split_at_mut-rest.ensures.front)
                c.loop-slot.invariant.read);
          }
      | else-done-into w ↦ record {
        same = ap g.S.Source.nature w.source-is ∙ c.loop-slot.invariant.same;
        slots = ap g.S.Source.slots w.source-is ∙ c.loop-slot.invariant.slots;
        sure = ap g.S.Source.faults w.source-is ∙ c.loop-slot.invariant.sure;
        border = border;
        room = c.if-done-into.auto.into ∙ c.loop-slot.invariant.room;
        filled = omega (arith, w.done-is, c.if-done-into.auto.into, c.loop-slot.invariant.filled);
        ahead = omega (arith, w.done-is, w.else-done-into.either, c.if-done-into.auto.into, c.loop-slot.invariant.ahead, c.loop-slot.invariant.filled);
        read = rw (w.done-is, w.into-is) c.loop-slot.invariant.read;
      }
    ]
