use Rattle.sbuf_nest.proofs.StrangerRows.{none_joined, none_without_row}
use Rattle.sbuf_nest.proofs.runs.next_row.Goals as goal

pub returns-clause-none : goal.returns-clause-none
returns-clause-none g c =
    let class = g.C.ByteClass.holds in
    let bytes = c.args.bytes.now in
    none_joined class bytes 32 c.args.next c.past_run-from.result c.next_row.result (c.past_run-from.ensures.none 32)
    (none_without_row class bytes c.past_run-from.result c.next_row.result c.next_row.ensures.before)
