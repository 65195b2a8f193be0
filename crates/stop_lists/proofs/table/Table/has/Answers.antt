use Rattle.std.specs.Prelude.{◌≡◌, ◌-◌, ◌<◌, ◌≤◌, [], None, length, option_copied}
use Rattle.std.proofs.Common.{sym, ◌∙◌, ap, arith}
use Rattle.std.proofs.lemmas.List.{get_or_past, get_or_read}
use Rattle.std.proofs.lemmas.List.Folds.{list_any_at}
use Rattle.stop_lists.specs.declared.buckets.Slot.{Slot}
use Rattle.stop_lists.specs.Lists.{Entry}
use Rattle.stop_lists.specs.Hash.{home_of}
use Rattle.stop_lists.specs.Places.{is_entry}
use Rattle.stop_lists.specs.Buckets.{slot_at}
use Rattle.stop_lists.proofs.Search.{not_there}
use Rattle.stop_lists.proofs.table.Table.has.Goals as goal

abbrev empty : Slot
empty = record { hash = 0; number = 0 }

abbrev nothing : Entry
nothing = record { feature = []; context = None }

pub returns-then-slot-eq0 : goal.returns-then-slot-eq0
returns-then-slot-eq0 c =
    let t = c.self.inside in
    let slot = get_or_read t.slots.items c.loop-at.at c.index-slot.result.now (omega (arith, t.slots.ok.0)) c.index-slot.ensures empty in
    let is_empty : (slot_at t.slots.items c.loop-at.at).number ≡ 0 = ap (λ (s : Slot). s.number) (sym slot) ∙ c.if-slot-eq0.true in
    let from_home : home_of c.args.hash t.count ≤ c.loop-at.at = omega (arith, c.home_of-at.ensures.home, c.loop-at.auto.at) in
    rw (← c.self.view_is) (sym (not_there t.entries t.count t.slots.items c.args.feature.now (option_copied c.args.context) c.args.hash c.loop-at.at
    c.self.invariant c.requires c.loop-at.invariant from_home is_empty))

pub returns-then-is_at : goal.returns-then-is_at
returns-then-is_at c =
    let t = c.self.inside in
    let slot = get_or_read t.slots.items c.loop-at.at c.index-slot.result.now (omega (arith, t.slots.ok.0)) c.index-slot.ensures empty in
    let number = ap (λ (s : Slot). s.number) slot in
    let below : c.index-slot.result.now.number - 1 < length t.entries = omega (arith, number, c.self.invariant.numbers c.loop-at.at, c.if-slot-eq0.false) in
    rw (← c.self.view_is) (sym (list_any_at (is_entry c.args.feature.now (option_copied c.args.context)) t.entries (c.index-slot.result.now.number - 1) nothing
    below (sym (c.is_at.ensures nothing) ∙ c.if-is_at.true)))

pub returns : goal.returns
returns c =
    let t = c.self.inside in
    let is_empty : (slot_at t.slots.items c.loop-at.at).number ≡ 0 =
    ap (λ (s : Slot). s.number) (get_or_past t.slots.items c.loop-at.at empty (omega (arith, t.slots.ok.0, c.len-at-end.ensures, c.loop-at-test.false))) in
    let from_home : home_of c.args.hash t.count ≤ c.loop-at.at = omega (arith, c.home_of-at.ensures.home, c.loop-at.auto.at) in
    rw (← c.self.view_is) (sym (not_there t.entries t.count t.slots.items c.args.feature.now (option_copied c.args.context) c.args.hash c.loop-at.at
    c.self.invariant c.requires c.loop-at.invariant from_home is_empty))
