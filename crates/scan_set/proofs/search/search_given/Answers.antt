use Rattle.std.proofs.Common.{rules, ◌≡◌, ◌∙◌, ◌-◌, map, false, sym, refl}
use Rattle.forensic_path.specs.declared.scanner.Scanner.TheVariants as scanner
use Rattle.forensic_path.specs.Scanners.{is_on}
use Rattle.sbuf_nest.proofs.MarkLists.{marks_of-none}
use Rattle.scan_set.specs.Marks.{given_at}
use Rattle.scan_set.proofs.search.search_given.Goals as goal

pub returns-then-not-is_on-clause-ok : goal.returns-then-not-is_on-clause-ok
returns-then-not-is_on-clause-ok g c =
    let sb = c.args.block.now in
    let plan = c.args.plan.now in
    let patterns = map g.M.Matcher.matches (map g.M.Matcher.reading c.args.matchers.now) in
    let find : is_on plan.scanners scanner.Find ≡ false = search rules in
    c.clear.ensures ∙ sym (marks_of-none (given_at patterns plan) sb.bytes.now sb.own_from (sb.own_to - sb.own_from) (λ place low high. rw find refl))
