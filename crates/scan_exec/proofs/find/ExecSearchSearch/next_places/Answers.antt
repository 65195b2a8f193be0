use Rattle.std.proofs.Common.{arith}
use Rattle.scan_exec.proofs.Fronts.{none_begins}
use Rattle.scan_exec.proofs.find.ExecSearchSearch.next_places.Goals as goal

pub returns-then-place-own_to-clause-none : goal.returns-then-place-own_to-clause-none
returns-then-place-own_to-clause-none c =
    λ place low high.
    none_begins c.args.self.now.want_exec c.args.self.now.want_unread c.args.sb.now.bytes.now place
    (c.next_place-place.ensures.before place low (omega (arith, high, c.if-place-own_to.true, c.own_to.ensures, c.own_to-2.ensures)))

pub returns-clause-ahead : goal.returns-clause-ahead
returns-clause-ahead c =
    λ place low high.
    none_begins c.args.self.now.want_exec c.args.self.now.want_unread c.args.sb.now.bytes.now place
    (c.next_place-place.ensures.before place low high)
