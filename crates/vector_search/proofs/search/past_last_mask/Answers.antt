use Rattle.std.proofs.Common.{◌-◌, sym, subst, arith}
use Rattle.vector_search.specs.Places.{NoneIn}
use Rattle.vector_search.proofs.Masks.{last_empty, last_shown}
use Rattle.vector_search.proofs.search.past_last_mask.Goals as goal

pub returns-then-marks-eq0-clause-none : goal.returns-then-marks-eq0-clause-none
returns-then-marks-eq0-clause-none g c =
    let first = c.min-first.result in
    last_empty (g.T.PlaceTest.passes c.args.test.now c.args.bytes.now) first (c.args.at - first) c.mask.result
    c.if-at-first-ge-LANES.false c.mask.ensures
    c.args.at c.min-end.result (omega (arith, c.min-first.ensures)) (omega (arith, c.min-end.ensures)) c.if-marks-eq0.true

pub returns-clause-none : goal.returns-clause-none
returns-clause-none g c =
    let first = c.min-first.result in
    let none = last_shown (g.T.PlaceTest.passes c.args.test.now c.args.bytes.now) first (c.args.at - first) c.mask.result
    c.if-at-first-ge-LANES.false c.mask.ensures
    c.args.at c.min-end.result (omega (arith, c.min-first.ensures)) c.if-marks-eq0.false in
    subst (NoneIn (g.T.PlaceTest.passes c.args.test.now c.args.bytes.now) c.args.at) (sym c.min.ensures) none
