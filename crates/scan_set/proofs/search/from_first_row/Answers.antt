use Rattle.scan_set.proofs.FirstRows.{texts_behind, digits_behind}
use Rattle.scan_set.proofs.search.from_first_row.Goals as goal

pub returns-clause-base64 : goal.returns-clause-base64
returns-clause-base64 c =
    let bytes = c.args.block.now.bytes.now in
    let next = c.next_word_row-from.ensures in
    let same = texts_behind bytes c.own_from.result c.next_word_row-from.result next.before c.own_to.result next.low next.high in
    rw (c.of.ensures.bytes, c.of.ensures.own_from, c.of.ensures.own_to, c.own_to-2.ensures) (rw (c.own_from.ensures, c.own_to.ensures) at same)

pub returns-clause-hex : goal.returns-clause-hex
returns-clause-hex c =
    let bytes = c.args.block.now.bytes.now in
    let next = c.next_word_row-from.ensures in
    let same = digits_behind bytes c.own_from.result c.next_word_row-from.result next.before c.own_to.result next.low next.high in
    rw (c.of.ensures.bytes, c.of.ensures.own_from, c.of.ensures.own_to, c.own_to-2.ensures) (rw (c.own_from.ensures, c.own_to.ensures) at same)
