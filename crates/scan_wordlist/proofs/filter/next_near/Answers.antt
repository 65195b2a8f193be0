use Rattle.std.proofs.Common.{◌+◌, arith}
use Rattle.vector_search.specs.Places.{NoneIn}
use Rattle.vector_search.proofs.Masks.{next_marked, none_to, none_further}
use Rattle.scan_wordlist.proofs.filter.next_near.Goals as goal

pub returns-then-marks-ne0 : goal.returns-then-marks-ne0
returns-then-marks-ne0 g c =
    let test = g.T.PlaceTest.passes c.args.test.now c.args.bytes.now in
    let none : NoneIn test c.args.from c.args.from = λ place low high. absurd (omega arith) in
    next_marked test c.args.from c.args.from c.args.to _ (omega arith) (omega (arith, c.if-to-from-lt-LANES.false, c.requires.ordered)) none
    c.mask-marks.ensures c.if-marks-ne0.true

pub returns : goal.returns
returns g c =
    let test = g.T.PlaceTest.passes c.args.test.now c.args.bytes.now in
    let none : NoneIn test c.args.from c.args.from = λ place low high. absurd (omega arith) in
    let next = c.next_place-2.ensures in record {
      low = omega (arith, next.low);
      high = next.high;
      before = none_further test c.args.from (c.args.from + 16) c.next_place-2.result
          (none_to test c.args.from c.args.from _ none c.mask-marks.ensures c.if-marks-ne0.false) next.before;
      passes = next.passes;
    }
