use Rattle.std.proofs.Common.{◌≡◌, ◌∙◌, ◌-◌, ◌≤◌, refl, arith}
use Rattle.std.proofs.lemmas.List.{append-nil}
use Rattle.sbuf_nest.proofs.MarkLists.{marks_of-zero}
use Rattle.sbuf_nest.proofs.SearchSteps.{on_err, passed, appended, cut_short, none_as, all_as, few_as}
use Rattle.sbuf_nest.proofs.search.find_marks.Goals as goal

pub loop-next-init : goal.loop-next-init
loop-next-init g c =
    let sb = c.args.sb.now in
    let e : c.own_from-next.result - sb.own_from ≡ 0 = omega (arith, c.own_from-next.ensures) in
    record {
      low = omega (arith, c.own_from-next.ensures);
      high = omega (arith, c.own_from-next.ensures, sb.ordered);
      judge = refl;
      found = rw (e, marks_of-zero (g.S.Search.judge c.args.search.now) sb.bytes.now sb.own_from, append-nil c.args.found.now) refl;
    }

pub returns-in_default-clause-ok : goal.returns-in_default-clause-ok
returns-in_default-clause-ok g c =
    let sb = c.args.sb.now in
    let inv = c.loop-next.invariant in
    let judge = g.S.Search.judge c.args.search.now in
    passed judge sb.bytes.now sb.own_from c.loop-next.next sb.own_to inv.low inv.high
    (none_as judge sb.bytes.now _ inv.judge c.loop-next.next sb.own_to c.in_default.ensures.none)
    c.args.found.now c.loop-next.found inv.found

pub returns-in_err-add_places-clause-err : goal.returns-in_err-add_places-clause-err
returns-in_err-add_places-clause-err g c =
    let sb = c.args.sb.now in
    let inv = c.loop-next.invariant in
    let places = c.in-Some.places in
    let order = c.in-Some.ensures.ordered in
    let behind : places.from ≤ places.to = omega (arith, order.1) in
    let judge = g.S.Search.judge c.args.search.now in
    on_err c.from_residual.result
    (cut_short judge sb.bytes.now sb.own_from c.loop-next.next places.from inv.low order.0
    (none_as judge sb.bytes.now _ inv.judge c.loop-next.next places.from c.in-Some.ensures.ahead)
    places.to sb.own_to behind c.in-Some.ensures.within c.args.found.now c.loop-next.found c.add_places.new.found inv.found
    (few_as judge sb.bytes.now _ (c.in-Some.ensures.judge ∙ inv.judge) places.from places.to c.loop-next.found c.add_places.new.found c.in_err-add_places.ensures.err))

pub loop-next-preserved : goal.loop-next-preserved
loop-next-preserved g c =
    let sb = c.args.sb.now in
    let inv = c.loop-next.invariant in
    let places = c.in-Some.places in
    let order = c.in-Some.ensures.ordered in
    let behind : places.from ≤ places.to = omega (arith, order.1) in
    let judge = g.S.Search.judge c.args.search.now in
    record {
      low = omega (arith, inv.low, order.0, order.1);
      high = c.in-Some.ensures.within;
      judge = c.in_ok-add_places.ensures.judge ∙ c.in-Some.ensures.judge ∙ inv.judge;
      found = appended judge sb.bytes.now sb.own_from c.loop-next.next places.from inv.low order.0
          (none_as judge sb.bytes.now _ inv.judge c.loop-next.next places.from c.in-Some.ensures.ahead)
          places.to behind c.args.found.now c.loop-next.found c.add_places.new.found inv.found
          (all_as judge sb.bytes.now _ (c.in-Some.ensures.judge ∙ inv.judge) places.from places.to c.loop-next.found c.add_places.new.found c.in_ok-add_places.ensures.ok);
    }
