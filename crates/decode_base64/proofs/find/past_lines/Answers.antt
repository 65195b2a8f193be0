use Rattle.std.proofs.Common.{◌≡◌, ◌∙◌, ◌+◌, true, ap, sym, arith}
use Rattle.sbuf_nest.specs.Around.{look_at}
use Rattle.decode_base64.proofs.Texts.{follows_line, none_further, none_there}
use Rattle.decode_base64.proofs.find.past_lines.Goals as goal

pub loop-at-preserved : goal.loop-at-preserved
loop-at-preserved c =
    let bytes = c.args.sb.now.bytes.now in
    let at = c.loop-at.at in
    let next = c.past_line-at-in-loop-at in
    let follows : follows_line (look_at bytes at) ≡ true = ap follows_line (sym c.look.ensures) ∙ sym c.follows_line.ensures ∙ c.if-follows_line.true in record {
      low = omega (arith, c.loop-at.invariant.low, next.ensures.low);
      high = next.ensures.high;
      none = none_further bytes c.args.next at next.result c.loop-at.invariant.none
          (none_further bytes at (at + 1) next.result (none_there bytes at follows) next.ensures.none);
    }
