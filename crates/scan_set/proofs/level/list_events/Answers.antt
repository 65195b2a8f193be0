use Rattle.std.proofs.Common.{◌≡◌, ◌∙◌, map, ap, List}
use Rattle.std.specs.Prelude.{nat_lt}
use Rattle.decode_views.specs.Xor.{xored_bytes}
use Rattle.scan_set.specs.Events.{viewed_event, merged_events}
use Rattle.scan_set.specs.declared.event.Event.{Event}
use Rattle.scan_set.proofs.Views.{level_left, level_below, level_merged}
use Rattle.scan_set.proofs.level.list_events.Goals as goal

pub returns-clause-ok : goal.returns-clause-ok
returns-clause-ok g c =
    let plan = c.args.plan.now in
    let block = c.args.block.now in
    let left = c.args.left in
    let patterns = map g.M.Matcher.matches (map g.M.Matcher.reading c.args.matchers.now) in
    let view : c.in-Some.view.now ≡ xored_bytes plan.mask block.bytes.now = rw c.in-Some.is at c.requires.view in
    let seen = c.of-seen.ensures in
    let second = rw c.search_block.ensures.same at c.in_ok-search_block-2.ensures.ok in
    rw c.in-Some.is
    (level_merged patterns plan left (nat_lt 0 left) (nat_lt 1 left) block c.of-seen.result c.search_block.new.lists.events.items.items _ c.merge.new.self.items.items
    (level_left left) (level_below left) (seen.bytes ∙ view) seen.own_from seen.own_to c.in_ok-search_block.ensures.ok second
    (c.in_ok-merge.ensures
    ∙ ap (λ (back : List Event). merged_events c.search_block.new.lists.events.items.items (map viewed_event back)) c.as_slice.ensures.value))
