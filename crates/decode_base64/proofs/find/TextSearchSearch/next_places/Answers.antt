use Rattle.decode_base64.proofs.Texts.{none_from, none_further}
use Rattle.decode_base64.proofs.find.TextSearchSearch.next_places.Goals as goal

pub returns-then-at-own_to-clause-none : goal.returns-then-at-own_to-clause-none
returns-then-at-own_to-clause-none c =
    let bytes = c.args.sb.now.bytes.now in
    none_further bytes c.args.next c.past_lines-from.result c.args.sb.now.own_to c.past_lines-from.ensures.none
    (none_from bytes c.past_lines-from.result c.args.sb.now.own_to (rw (c.if-at-own_to.true, c.own_to-2.ensures) at c.next_row-at.ensures.none))

pub returns-clause-ahead : goal.returns-clause-ahead
returns-clause-ahead c =
    let bytes = c.args.sb.now.bytes.now in
    none_further bytes c.args.next c.past_lines-from.result c.next_row-at.result c.past_lines-from.ensures.none
    (none_from bytes c.past_lines-from.result c.next_row-at.result c.next_row-at.ensures.none)
