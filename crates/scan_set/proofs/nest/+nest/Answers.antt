use Rattle.std.proofs.Common.{rules, ◌≡◌, ◌∙◌, ℕ, ◌+◌, ◌-◌, ◌*◌, ◌<◌, ◌≤◌, [], ◌++◌, List, length, map, take, get_or, sym, ap, refl, subst, arith, append_assoc}
use Rattle.std.proofs.lemmas.List.{append-nil, length-map, take_all}
use Rattle.std.specs.List.{flat_map}
use Rattle.std.specs.Prelude.{Option, bit_xor}
use Rattle.forensic_path.specs.declared.feature.Feature.{Feature}
use Rattle.forensic_path.specs.declared.path.Decoder.TheVariants.{Xor}
use Rattle.sbuf_nest.specs.Around.{Around, look_at}
use Rattle.sbuf_nest.specs.Marks.{owned_marks}
use Rattle.sbuf_nest.specs.Turns.{turned}
use Rattle.sbuf_nest.specs.declared.trail.Turn.{Turn}
use Rattle.decode_views.specs.Xor.{xored, xored_bytes}
use Rattle.decode_views.proofs.Masked.{view_look}
use Rattle.scan_set.specs.Events.{has_view, level_events, event_features, sign_features}
use Rattle.scan_set.specs.Fits.{IsReady, FitsSign, FitsEvent}
use Rattle.scan_set.specs.Here.{here, owned}
use Rattle.scan_set.specs.declared.event.Event.{Event}
use Rattle.scan_set.proofs.Fitting.{event_fits}
use Rattle.scan_set.proofs.Images.{owned-none, owned-join, places_owned, one_event_more, length-turned}
use Rattle.scan_set.proofs.Made.{view_seen, turned_same, sign_made, block_made, owned_more, value_made}
use Rattle.scan_set.proofs.nest.+nest.Goals as goal

pub add_event-add_sign-requires-2 : goal.add_event-add_sign-requires-2
add_event-add_sign-requires-2 g t c κs within =
    let plan = c.args.plan.now in
    let bytes = c.args.block.now.bytes.now in
    let event = c.args.event.now in
    let left = c.args.left in
    let view : c.in-Some.view.now ≡ xored_bytes plan.mask bytes = rw c.in-Some.is at c.requires.view in
    let seen : c.child-seen.result.bytes.now ≡ xored_bytes plan.mask bytes = c.child-seen.ensures.bytes ∙ view in
    let look : look_at c.child-seen.result.bytes.now event.at ≡ xored plan.mask (look_at bytes event.at) =
    ap (λ (b : List ℕ). look_at b event.at) seen ∙ view_look plan.mask bytes event.at in
    let given = rw c.if-not-event.false at c.requires.fits in
    let some : 1 ≤ left = given.1.0 in
    let fits : FitsSign (left - 1) (look_at c.child-seen.result.bytes.now event.at) event.sign =
    subst (λ (look : Around). FitsSign (left - 1) look event.sign) (sym look) given.1.1 in
    let inside : event.at < length c.child-seen.result.bytes.now = omega (arith, given.0, ap length seen, length-map bytes (bit_xor plan.mask)) in
    let turns = c.args.run.now.trail.turns in
    let ready : IsReady plan (left - 1) (length c.args.run.now.matchers.items) c.push.new.self = record {
      lawful = c.requires.ready.lawful;
      patterns = c.requires.ready.patterns;
      steps = omega (arith, c.requires.ready.steps, some, ap length c.push.ensures.turns, length-turned turns c.place-place.result (Xor plan.mask), c.push.ensures.limit);
    } in
    let falls : 6 * (left - 1) + 2 < 6 * left + 3 = omega (arith, some) in
    search rules

pub add_event-returns-clause-out : goal.add_event-returns-clause-out
add_event-returns-clause-out g t c =
    let plan = c.args.plan.now in
    let patterns = map g.M.Matcher.matches (map g.M.Matcher.reading c.args.run.now.matchers.items) in
    let bytes = c.args.block.now.bytes.now in
    let event = c.args.event.now in
    let turns = c.args.run.now.trail.turns in
    let place = c.args.block.now.base + event.at in
    let view : c.in-Some.view.now ≡ xored_bytes plan.mask bytes = rw c.in-Some.is at c.requires.view in
    let look : look_at c.child-seen.result.bytes.now event.at ≡ xored plan.mask (look_at bytes event.at) =
    view_seen plan.mask bytes _ _ event.at c.child-seen.ensures.bytes view in
    let ways : c.push.new.self.turns ≡ turned turns place (Xor plan.mask) =
    turned_same turns _ _ place (Xor plan.mask) c.push.ensures.turns c.place-place.ensures in
    rw c.if-not-event.false
    (sign_made patterns plan (c.args.left - 1) c.args.run.now.out.items event.sign (turned turns place (Xor plan.mask)) _
    (xored plan.mask (look_at bytes event.at)) _ _ c.in_ok-add_sign.ensures.out ways look)

pub scan_block-add_event-requires : goal.scan_block-add_event-requires
scan_block-add_event-requires g t c κs within =
    let plan = c.args.plan.now in
    let patterns = map g.M.Matcher.matches (map g.M.Matcher.reading c.args.run.now.matchers.items) in
    let block = c.args.block.now in
    let left = c.args.left in
    let turns = c.args.run.now.trail.turns in
    let inv = c.loop-event.invariant in
    let events : c.as_slice-events.result.now ≡ owned_marks (level_events patterns plan left (has_view plan left turns)) block =
    c.as_slice-events.ensures.value ∙ rw (c.as_mut_slice.ensures.value, c.requires.on) at c.in_ok-list_events.ensures.ok in
    let fits : (other : Event) → FitsEvent plan left block.bytes.now (get_or c.as_slice-events.result.now c.loop-event.event-index other) =
    λ other. event_fits patterns plan left turns block.bytes.now block.own_from (block.own_to - block.own_from) c.as_slice-events.result.now c.loop-event.event-index other
    (omega (arith, block.ordered, block.within)) events c.loop-event-test.true in
    let ready : IsReady plan left (length c.loop-event.run.matchers.items) c.loop-event.run.trail = record {
      lawful = c.requires.ready.lawful;
      patterns = omega (arith, c.requires.ready.patterns, ap length inv.same, length-map c.loop-event.run.matchers.items g.M.Matcher.reading, length-map c.args.run.now.matchers.items g.M.Matcher.reading);
      steps = omega (arith, c.requires.ready.steps, ap length inv.trail, inv.limit);
    } in
    let falls : 6 * left + 3 < 6 * left + 4 = omega arith in
    search rules

pub scan_block-loop-event-preserved : goal.scan_block-loop-event-preserved
scan_block-loop-event-preserved g t c =
    let plan = c.args.plan.now in
    let patterns = map g.M.Matcher.matches (map g.M.Matcher.reading c.args.run.now.matchers.items) in
    let block = c.args.block.now in
    let gives = event_features patterns plan c.args.left c.args.run.now.trail.turns block.bytes.now block.base in
    let inv = c.loop-event.invariant in
    record {
      same = c.in_ok-add_event.ensures.same ∙ inv.same;
      limit = c.in_ok-add_event.ensures.limit ∙ inv.limit;
      trail = c.in_ok-add_event.ensures.trail ∙ inv.trail;
      out = one_event_more gives c.as_slice-events.result.now c.loop-event.event-index _ c.args.run.now.out.items c.loop-event.run.out.items _
          c.loop-event-test.true inv.out (rw (inv.same, inv.trail) at c.in_ok-add_event.ensures.out);
    }

pub scan_block-returns-clause-out : goal.scan_block-returns-clause-out
scan_block-returns-clause-out g t c =
    let plan = c.args.plan.now in
    let patterns = map g.M.Matcher.matches (map g.M.Matcher.reading c.args.run.now.matchers.items) in
    let block = c.args.block.now in
    let left = c.args.left in
    let turns = c.args.run.now.trail.turns in
    let events : c.as_slice-events.result.now ≡ owned_marks (level_events patterns plan left (has_view plan left turns)) block =
    c.as_slice-events.ensures.value ∙ rw (c.as_mut_slice.ensures.value, c.requires.on) at c.in_ok-list_events.ensures.ok in
    block_made patterns plan left c.args.run.now.out.items turns block c.as_slice-events.result.now c.loop-event.event-index
    c.loop-event.run.out.items events c.loop-event-test.false c.loop-event.invariant.out

pub scan_level-loop-next-init : goal.scan_level-loop-next-init
scan_level-loop-next-init g t c =
    let patterns = map g.M.Matcher.matches (map g.M.Matcher.reading c.args.run.now.matchers.items) in
    let sb = c.args.sb.now in
    let none : c.own_from-next.result - sb.own_from ≡ 0 = omega (arith, c.own_from-next.ensures) in
    record {
      low = omega (arith, c.own_from-next.ensures);
      high = omega (arith, c.own_from-next.ensures, sb.ordered);
      same = refl;
      limit = refl;
      trail = refl;
      out = rw (none, owned-none patterns c.args.plan.now c.args.left c.args.run.now.trail.turns sb.bytes.now sb.base sb.own_from) (sym (append-nil c.args.run.now.out.items));
    }

pub scan_level-loop-next-preserved : goal.scan_level-loop-next-preserved
scan_level-loop-next-preserved g t c =
    let patterns = map g.M.Matcher.matches (map g.M.Matcher.reading c.args.run.now.matchers.items) in
    let sb = c.args.sb.now in
    let inv = c.loop-next.invariant in
    let next = c.loop-next.next in
    let to = c.min-to.result in
    let block = c.of-block.ensures in
    let low : next ≤ to = omega (arith, inv.high) in
    record {
      low = omega (arith, inv.low);
      high = omega arith;
      same = c.in_ok-scan_block.ensures.same ∙ inv.same;
      limit = c.in_ok-scan_block.ensures.limit ∙ inv.limit;
      trail = c.in_ok-scan_block.ensures.trail ∙ inv.trail;
      out = owned_more patterns c.args.plan.now c.args.left c.args.run.now.out.items c.args.run.now.trail.turns sb.bytes.now sb.base sb.own_from next to
          c.loop-next.run.out.items _ inv.low low inv.out
          (rw (block.bytes, block.own_from, block.own_to, block.base, inv.same, inv.trail) at c.in_ok-scan_block.ensures.out);
    }

pub scan_value-returns-clause-out : goal.scan_value-returns-clause-out
scan_value-returns-clause-out g t c =
    let patterns = map g.M.Matcher.matches (map g.M.Matcher.reading c.args.run.now.matchers.items) in
    let child = c.child.ensures in
    value_made patterns c.args.plan.now (c.args.left - 1) c.args.run.now.out.items (turned c.args.run.now.trail.turns c.args.place c.args.by)
    c.push.new.self.turns c.args.value.now c.child.result _ c.push.ensures.turns child.bytes child.own_from child.own_to child.base
    c.in_ok-scan_level.ensures.out
