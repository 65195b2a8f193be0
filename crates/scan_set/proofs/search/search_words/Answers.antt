use Rattle.std.proofs.Common.{rules, ◌≡◌, ◌∙◌, ◌-◌, false, sym, refl}
use Rattle.forensic_path.specs.declared.scanner.Scanner.TheVariants as scanner
use Rattle.forensic_path.specs.Scanners.{is_on}
use Rattle.sbuf_nest.proofs.MarkLists.{marks_of-none}
use Rattle.scan_set.specs.Marks.{words_at}
use Rattle.scan_set.proofs.search.search_words.Goals as goal

pub returns-then-not-is_on : goal.returns-then-not-is_on
returns-then-not-is_on c =
    let sb = c.args.block.now in
    let word : is_on c.args.plan.now.scanners scanner.Word ≡ false = search rules in
    c.clear.ensures ∙ sym (marks_of-none (words_at c.args.plan.now) sb.bytes.now sb.own_from (sb.own_to - sb.own_from) (λ place low high. rw word refl))
