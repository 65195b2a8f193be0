use Rattle.std.proofs.Common.{arith}
use Rattle.scan_wordlist.proofs.Runs.{none_fewer}
use Rattle.scan_wordlist.proofs.find.next_row.Goals as goal

pub returns-then-least-ge6-clause-before : goal.returns-then-least-ge6-clause-before
returns-then-least-ge6-clause-before c =
    none_fewer c.args.bytes.now 6 c.args.least c.args.from _ (omega (arith, c.if-least-ge6.true)) c.next_near.ensures.before

pub returns-then-least-ge4-clause-before : goal.returns-then-least-ge4-clause-before
returns-then-least-ge4-clause-before c =
    none_fewer c.args.bytes.now 4 c.args.least c.args.from _ (omega (arith, c.if-least-ge4.true)) c.next_near-then-least-ge4.ensures.before

pub returns-then-least-ge2-clause-before : goal.returns-then-least-ge2-clause-before
returns-then-least-ge2-clause-before c =
    none_fewer c.args.bytes.now 2 c.args.least c.args.from _ (omega (arith, c.if-least-ge2.true)) c.next_near-then-least-ge2.ensures.before
