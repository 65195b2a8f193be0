use Rattle.std.proofs.Common.{arith}
use Rattle.scan_net.proofs.Passed.{none_owned, none_ahead}
use Rattle.scan_net.proofs.find.PacketSearchSearch.next_places.Goals as goal

pub returns-then-header-end-clause-none : goal.returns-then-header-end-clause-none
returns-then-header-end-clause-none c =
    let found = c.next_header-header.ensures in
    none_owned c.args.sb.now.bytes.now c.args.next c.args.sb.now.own_to c.next_header-header.result (omega (arith, c.own_to.ensures, c.len.ensures)) found.none

pub returns-clause-ahead : goal.returns-clause-ahead
returns-clause-ahead c =
    none_ahead c.args.sb.now.bytes.now c.args.next c.next_header-header.result c.max.result (omega arith) c.next_header-header.ensures.none
