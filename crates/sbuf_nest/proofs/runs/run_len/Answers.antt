use Rattle.sbuf_nest.proofs.StrangerRows.{run_to_stranger}
use Rattle.sbuf_nest.proofs.runs.run_len.Goals as goal

pub returns-clause-run : goal.returns-clause-run
returns-clause-run g c = run_to_stranger g.C.ByteClass.holds c.args.bytes.now c.next_place.result c.next_place.ensures
