use Rattle.std.proofs.Common.{rules, ◌≡◌, ◌∙◌, ◌-◌, false, sym, refl}
use Rattle.forensic_path.specs.declared.scanner.Scanner.TheVariants as scanner
use Rattle.forensic_path.specs.Scanners.{is_on}
use Rattle.sbuf_nest.proofs.MarkLists.{marks_of-none}
use Rattle.scan_set.specs.Marks.{packets_at}
use Rattle.scan_set.proofs.search.search_packets.Goals as goal

pub returns-then-not-is_on : goal.returns-then-not-is_on
returns-then-not-is_on c =
    let sb = c.args.block.now in
    let net : is_on c.args.plan.now.scanners scanner.Net ≡ false = search rules in
    c.clear.ensures ∙ sym (marks_of-none (packets_at c.args.plan.now) sb.bytes.now sb.own_from (sb.own_to - sb.own_from) (λ place low high. rw net refl))
