use Rattle.std.proofs.Common.{rules, ◌≡◌, ◌∙◌, ◌-◌, false, sym, refl}
use Rattle.forensic_path.specs.declared.scanner.Scanner.TheVariants as scanner
use Rattle.forensic_path.specs.Scanners.{is_on}
use Rattle.sbuf_nest.proofs.MarkLists.{marks_of-none}
use Rattle.scan_set.specs.Marks.{execs_at}
use Rattle.scan_set.proofs.search.search_execs.Goals as goal

pub returns-then-not-want_unread : goal.returns-then-not-want_unread
returns-then-not-want_unread c =
    let sb = c.args.block.now in
    let exec : is_on c.args.plan.now.scanners scanner.Exec ≡ false = search rules in
    let unread : is_on c.args.plan.now.scanners scanner.Unread ≡ false = search rules in
    c.clear.ensures ∙ sym (marks_of-none (execs_at c.args.plan.now) sb.bytes.now sb.own_from (sb.own_to - sb.own_from) (λ place low high. rw (exec, unread) refl))
