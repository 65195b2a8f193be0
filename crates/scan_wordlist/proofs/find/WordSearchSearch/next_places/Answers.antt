use Rattle.std.proofs.Common.{arith}
use Rattle.scan_wordlist.proofs.Runs.{none_passed}
use Rattle.scan_wordlist.proofs.find.WordSearchSearch.next_places.Goals as goal

pub returns-then-at-own_to-clause-none : goal.returns-then-at-own_to-clause-none
returns-then-at-own_to-clause-none c =
    let bytes = c.args.sb.now.bytes.now in
    none_passed c.args.self.now.min c.args.self.now.max c.args.next c.past_run-from.result c.args.sb.now.own_to bytes c.args.sb.now.within c.past_run-from.ensures.inside
    (rw (c.if-at-own_to.true, c.own_to-3.ensures) at c.next_row-at.ensures.before)

pub returns-clause-ahead : goal.returns-clause-ahead
returns-clause-ahead c =
    let bytes = c.args.sb.now.bytes.now in
    none_passed c.args.self.now.min c.args.self.now.max c.args.next c.past_run-from.result c.next_row-at.result bytes
    (omega (arith, c.next_row-at.ensures.high, c.own_to-2.ensures, c.args.sb.now.within)) c.past_run-from.ensures.inside c.next_row-at.ensures.before
