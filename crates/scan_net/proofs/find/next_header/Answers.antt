use Rattle.std.proofs.Common.{◌∙◌, sym, ap, arith}
use Rattle.scan_net.specs.Packet.{begins_ipv4}
use Rattle.scan_net.proofs.Passed.{none_by_test, none_further}
use Rattle.scan_net.proofs.find.next_header.Goals as goal

pub loop-at-init : goal.loop-at-init
loop-at-init c = record {
  low = c.next_place-at.ensures.low;
  high = c.next_place-at.ensures.high;
  none = none_by_test c.args.bytes.now c.args.from c.next_place-at.result c.next_place-at.ensures.before;
}

pub loop-at-preserved : goal.loop-at-preserved
loop-at-preserved c =
    let next = c.next_place-at-in-loop-at in record {
      low = omega (arith, c.loop-at.invariant.low, next.ensures.low);
      high = next.ensures.high;
      none = none_further c.args.bytes.now c.args.from c.loop-at.at next.result c.loop-at.invariant.none
          (ap begins_ipv4 (sym c.split_at.ensures.back) ∙ sym c.begins_ipv4.ensures.begins ∙ c.if-not-begins_ipv4.true) next.ensures.before;
    }
