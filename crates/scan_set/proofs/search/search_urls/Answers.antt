use Rattle.std.proofs.Common.{rules, ◌≡◌, ◌∙◌, ◌-◌, false, sym, refl}
use Rattle.forensic_path.specs.declared.scanner.Scanner.TheVariants as scanner
use Rattle.forensic_path.specs.Scanners.{is_on}
use Rattle.sbuf_nest.proofs.MarkLists.{marks_of-none}
use Rattle.scan_set.specs.Marks.{urls_at}
use Rattle.scan_set.proofs.search.search_urls.Goals as goal

pub returns-then-not-want_domain : goal.returns-then-not-want_domain
returns-then-not-want_domain c =
    let sb = c.args.block.now in
    let url : is_on c.args.plan.now.scanners scanner.Url ≡ false = search rules in
    let domain : is_on c.args.plan.now.scanners scanner.Domain ≡ false = search rules in
    c.clear.ensures ∙ sym (marks_of-none (urls_at c.args.plan.now) sb.bytes.now sb.own_from (sb.own_to - sb.own_from) (λ place low high. rw (url, domain) refl))
