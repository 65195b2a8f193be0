use Rattle.std.proofs.Common.{◌+◌, arith}
use Rattle.sbuf_nest.specs.Around.{look_at}
use Rattle.scan_url.specs.declared.find.TheConstants.{NAME_MOST}
use Rattle.scan_url.proofs.Beside.{none_ahead, none_over, unmarked}
use Rattle.scan_url.proofs.find.UrlSearchSearch.next_places.Goals as goal

pub returns-in_default-clause-none : goal.returns-in_default-clause-none
returns-in_default-clause-none c =
    let sb = c.args.sb.now in
    λ place low high.
    unmarked c.args.self.now.want_url c.args.self.now.want_domain (look_at sb.bytes.now place) place
    (none_ahead sb.bytes.now c.args.next (sb.own_to + NAME_MOST) (λ k least most stands. c.in_default.ensures.none k least (omega arith) stands)
    place low (omega (arith, sb.within)) (omega arith))

pub returns-then-next-at-clause-ahead : goal.returns-then-next-at-clause-ahead
returns-then-next-at-clause-ahead c =
    let sb = c.args.sb.now in
    let at = c.in-Some.at in
    λ place low high.
    unmarked c.args.self.now.want_url c.args.self.now.want_domain (look_at sb.bytes.now place) place
    (none_ahead sb.bytes.now c.args.next at c.in-Some.ensures.first place low
    (omega (arith, sb.within, c.in-Some.ensures.near.1)) (omega (arith, high, low, c.max.ensures, c.saturating_sub.ensures)))

pub returns-then-host-own_to-clause-none : goal.returns-then-host-own_to-clause-none
returns-then-host-own_to-clause-none c =
    let sb = c.args.sb.now in
    let at = c.in-Some.at in
    λ place low high.
    unmarked c.args.self.now.want_url c.args.self.now.want_domain (look_at sb.bytes.now place) place
    (none_over sb.bytes.now c.args.next at c.in-Some.ensures.first place low (omega (arith, sb.within))
    c.in-Some.ensures.stands (omega arith) (omega arith))

pub returns-clause-ahead : goal.returns-clause-ahead
returns-clause-ahead c =
    let sb = c.args.sb.now in
    let at = c.in-Some.at in
    λ place low high.
    unmarked c.args.self.now.want_url c.args.self.now.want_domain (look_at sb.bytes.now place) place
    (none_over sb.bytes.now c.args.next at c.in-Some.ensures.first place low (omega (arith, sb.within))
    c.in-Some.ensures.stands (omega arith) (omega arith))
