use Rattle.std.proofs.Common.{◌∙◌, sym, arith}
use Rattle.scan_url.proofs.Beside.{none_by_test, none_further, none_to_end}
use Rattle.scan_url.proofs.find.next_scheme_end.Goals as goal

pub loop-at-init : goal.loop-at-init
loop-at-init c =
    let found = c.next_place-at.ensures in record {
      low = omega (arith, found.low, c.saturating_sub.ensures);
      high = found.high;
      none = none_by_test c.args.sb.now.bytes.now c.args.next c.saturating_sub.result c.next_place-at.result (omega (arith, c.saturating_sub.ensures)) found.before;
    }

pub loop-at-preserved : goal.loop-at-preserved
loop-at-preserved c =
    let found = c.next_place-at-in-loop-at.ensures in record {
      low = omega (arith, c.loop-at.invariant.low, found.low);
      high = found.high;
      none = none_further c.args.sb.now.bytes.now c.args.next c.loop-at.at c.next_place-at-in-loop-at.result c.loop-at.invariant.none
          (sym c.ends_scheme.ensures ∙ c.if-ends_scheme.false) found.before;
    }

pub returns-clause-none : goal.returns-clause-none
returns-clause-none c =
    none_to_end c.args.sb.now.bytes.now c.args.next c.args.sb.now.own_to c.loop-at.at (omega (arith, c.loop-at-test.false, c.min-end.ensures, c.own_to.ensures, c.len.ensures)) c.loop-at.invariant.none
