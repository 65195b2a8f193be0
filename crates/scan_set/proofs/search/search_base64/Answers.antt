use Rattle.std.proofs.Common.{rules, ◌≡◌, ◌∙◌, ◌-◌, false, sym, refl}
use Rattle.forensic_path.specs.declared.scanner.Scanner.TheVariants as scanner
use Rattle.forensic_path.specs.Scanners.{is_on}
use Rattle.sbuf_nest.proofs.MarkLists.{marks_of-none}
use Rattle.scan_set.specs.Decoders.{base64_at}
use Rattle.scan_set.proofs.search.search_base64.Goals as goal

pub returns-then-not-is_on : goal.returns-then-not-is_on
returns-then-not-is_on c =
    let sb = c.args.block.now in
    let plan = c.args.plan.now in
    let off : is_on plan.scanners scanner.Base64 ≡ false = search rules in
    c.clear.ensures ∙ sym (marks_of-none (base64_at plan) sb.bytes.now sb.own_from (sb.own_to - sb.own_from) (λ place low high. rw off refl))
