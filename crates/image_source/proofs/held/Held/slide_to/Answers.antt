use Rattle.std.proofs.Common.{◌≡◌, ◌∙◌, ◌+◌, ◌-◌, ◌≤◌, List, ℕ, take, drop, ap, arith}
use Rattle.std.proofs.lemmas.List.{with_items_is}
use Rattle.std.proofs.lemmas.Option.{IfSome_then}
use Rattle.std.specs.Vec.{with_items}
use Rattle.image_source.proofs.HeldLemmas.{still_held}
use Rattle.image_source.proofs.held.Held.slide_to.Goals as goal

pub returns-clause-held : goal.returns-clause-held
returns-clause-held c = λ size bytes inside held.
    let room = c.args.self.now.room in
    let gone = c.args.from - c.args.self.now.from in
    let now : (with_items room c.slide.new.room).items ≡ c.slide.new.room =
    with_items_is room c.slide.new.room (c.slide.ensures.length ∙ c.as_mut_slice.ensures.len) in
    let ends : c.args.self.now.from + gone ≡ c.args.from = omega (arith, c.if-from-self.false) in
    let low : gone ≤ c.args.self.now.count = omega (arith, c.if-from-self-2.false) in
    let moved : take (c.args.self.now.count - gone) c.slide.new.room ≡ drop gone (take c.args.self.now.count room.items) =
    c.slide.ensures.moved ∙ ap (λ (bytes : List ℕ). drop gone (take c.args.self.now.count bytes)) c.as_mut_slice.ensures.value in
    record {
      room = omega (arith, c.min-self.ensures, held.room, c.requires.room);
      end = omega (arith, c.min-self.ensures, held.end, c.if-from-self.false, c.if-from-self-2.false);
      told = IfSome_then bytes held.told (λ image is.
          rw now (still_held image room.items c.slide.new.room c.args.self.now.from c.args.from gone c.args.self.now.count c.args.most
          c.min-self.result c.min-self.ensures ends low moved is));
    }
