use Rattle.std.proofs.Common.{rules, ◌≡◌, ◌∙◌, ◌++◌, ◌∷◌, [], length}
use Rattle.image_source.specs.Image.{IsPart}
use Rattle.image_source.specs.Inside.{slot_of}
use Rattle.image_source.proofs.PartLemmas.{attached_push, attached_below, named_few, named_push, is_part, all_push}
use Rattle.image_source.proofs.attach.attach_all.Goals as goal

pub loop-name-preserved : goal.loop-name-preserved
loop-name-preserved g c =
    let items : c.push.new.self.items ≡ c.loop-name.parts.items ++ c.in_ok-part.part ∷ [] = c.in_ok-push.ensures.items in
    let named = c.in_ok-part.ensures.named in
    let part : IsPart (g.S.Source.nature c.args.source.now) (slot_of c.in_ok-part.part) =
    is_part _ _ _ _ _ _ c.in_ok-part.part c.loop-name.invariant.same named c.in_ok-part.ensures.attached in
    let slot : c.len.result ≡ length c.loop-name.parts.items = search rules in
    record {
      same = c.attach_part.ensures.same ∙ c.loop-name.invariant.same;
      sure = c.in_ok-part.ensures.cause.works ∙ c.loop-name.invariant.sure;
      attached = rw items (attached_push _ _ c.loop-name.parts.items c.in_ok-part.part _ _ c.loop-name.invariant.attached slot named c.in_ok-part.ensures.attached.attached);
      named = rw items (named_push c.loop-name.parts.items c.in_ok-part.part c.args.names.now c.loop-name.name-index _ c.loop-name-test.true c.loop-name.invariant.named (named ∙ c.name-item.is));
      parts = rw items (all_push _ c.loop-name.parts.items c.in_ok-part.part c.loop-name.invariant.parts part);
    }

pub returns-in_err-push-clause-below : goal.returns-in_err-push-clause-below
returns-in_err-push-clause-below g c =
    let named = c.in_ok-part.ensures.named in
    let slot : c.len.result ≡ length c.loop-name.parts.items = search rules in
    let attached = attached_push _ _ c.loop-name.parts.items c.in_ok-part.part _ _ c.loop-name.invariant.attached slot named c.in_ok-part.ensures.attached.attached in
    let names = named_push c.loop-name.parts.items c.in_ok-part.part c.args.names.now c.loop-name.name-index _ c.loop-name-test.true c.loop-name.invariant.named (named ∙ c.name-item.is) in
    attached_below _ (c.loop-name.parts.items ++ c.in_ok-part.part ∷ []) _ attached (named_few _ c.args.names.now _ names)

pub returns-clause-below : goal.returns-clause-below
returns-clause-below g c =
    attached_below _ c.loop-name.parts.items _ c.loop-name.invariant.attached (named_few _ c.args.names.now _ c.loop-name.invariant.named)
