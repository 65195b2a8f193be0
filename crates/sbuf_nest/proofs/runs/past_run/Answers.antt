use Rattle.std.proofs.Common.{arith}
use Rattle.sbuf_nest.proofs.StrangerRows.{none_to_next}
use Rattle.sbuf_nest.proofs.runs.past_run.Goals as goal

pub returns-clause-none : goal.returns-clause-none
returns-clause-none g c = λ least.
    none_to_next g.C.ByteClass.holds c.args.bytes.now least c.args.next c.next_place.result (omega (arith, c.if-next-eq0.false)) (omega (arith, c.requires.within, c.next_place.ensures.high))
    (cc (c.has.ensures, c.if-not-has.false)) c.next_place.ensures.before
