use Rattle.std.proofs.Common.{◌≡◌, ◌∙◌, ◌+◌, ◌-◌, ◌++◌, subst, refl, arith}
use Rattle.std.proofs.lemmas.List.{append-nil}
use Rattle.sbuf_nest.specs.Around.{seen}
use Rattle.sbuf_nest.specs.Marks.{AppendsFirst}
use Rattle.sbuf_nest.proofs.MarkLists.{marks_of-zero}
use Rattle.sbuf_nest.proofs.SearchSteps.{on_err, one_place, none_here, appended, cut_short}
use Rattle.sbuf_nest.proofs.search.add_places.Goals as goal

pub loop-place-init : goal.loop-place-init
loop-place-init g c =
    let first = c.args.places.from in
    let e : first - first ≡ 0 = omega arith in
    record {
      judge = refl;
      found = rw (e, marks_of-zero (g.S.Search.judge c.args.search.now) c.args.sb.now.bytes.now first, append-nil c.args.found.now) refl;
    }

pub loop-place-preserved : goal.loop-place-preserved
loop-place-preserved g c =
    let judge = g.S.Search.judge c.args.search.now in
    let bytes = c.args.sb.now.bytes.now in
    let place = c.loop-place.place in
    let inv = c.loop-place.invariant in
    let one = one_place judge bytes place (g.S.Search.judge c.loop-place.search) (seen c.look.result) inv.judge c.look.ensures in
    record {
      judge = c.in_ok-marks_into.ensures.judge ∙ inv.judge;
      found = appended judge bytes c.args.places.from place place c.loop-place.auto.place (omega arith) (none_here judge bytes place)
          (place + 1) (omega arith) c.args.found.now c.loop-place.found c.marks_into.new.found inv.found
          (subst (λ some. c.marks_into.new.found ≡ c.loop-place.found ++ some) one c.in_ok-marks_into.ensures.ok);
    }

pub returns-in_err-marks_into-clause-err : goal.returns-in_err-marks_into-clause-err
returns-in_err-marks_into-clause-err g c =
    let judge = g.S.Search.judge c.args.search.now in
    let bytes = c.args.sb.now.bytes.now in
    let place = c.loop-place.place in
    let inv = c.loop-place.invariant in
    let one = one_place judge bytes place (g.S.Search.judge c.loop-place.search) (seen c.look.result) inv.judge c.look.ensures in
    on_err c.from_residual.result
    (cut_short judge bytes c.args.places.from place place c.loop-place.auto.place (omega arith) (none_here judge bytes place)
    (place + 1) c.args.places.to (omega arith) (omega (arith, c.loop-place-test.true)) c.args.found.now c.loop-place.found c.marks_into.new.found inv.found
    (subst (AppendsFirst c.loop-place.found c.marks_into.new.found) one c.in_err-marks_into.ensures.err))
