use Rattle.std.proofs.Common.{◌≡◌, ◌∙◌, map, ap}
use Rattle.forensic_path.specs.declared.scanner.Scanner.TheVariants as scanner
use Rattle.forensic_path.specs.Scanners.{is_on}
use Rattle.decode_base64.specs.Starts.{base64_starts}
use Rattle.decode_hex.specs.Starts.{hex_starts}
use Rattle.sbuf_nest.specs.Marks.{owned_marks}
use Rattle.scan_set.specs.Decoders.{base64_at, hex_at, utf16_at}
use Rattle.scan_set.specs.Events.{text_event, merged_events}
use Rattle.scan_set.proofs.FirstRows.{where_on}
use Rattle.scan_set.proofs.search.search_decoders.Goals as goal

pub returns : goal.returns
returns c =
    let plan = c.args.plan.now in
    let block = c.args.block.now in
    let rows = c.from_first_row-rows in
    let before = c.args.lists.now.events.items.items in
    let texts = c.items.ensures ∙ c.in_ok-search_base64.ensures
    ∙ where_on (is_on plan.scanners scanner.Base64) base64_starts rows.result block rows.ensures.base64 in
    let digits = c.items-2.ensures ∙ c.in_ok-search_hex.ensures
    ∙ where_on (is_on plan.scanners scanner.Hex) hex_starts rows.result block rows.ensures.hex in
    let first : c.merge.new.self.items.items ≡ merged_events before (map text_event (owned_marks (base64_at plan) block)) =
    c.in_ok-merge.ensures ∙ ap (λ starts. merged_events before (map text_event starts)) texts in
    let second = c.in_ok-merge-2.ensures ∙ ap (λ starts. merged_events c.merge.new.self.items.items (map text_event starts)) digits
    ∙ ap (λ events. merged_events events (map text_event (owned_marks (hex_at plan) block))) first in
    c.in_ok-merge-3.ensures
    ∙ ap (λ starts. merged_events c.merge-2.new.self.items.items (map text_event starts)) (c.items-3.ensures ∙ c.in_ok-search_utf16.ensures)
    ∙ ap (λ events. merged_events events (map text_event (owned_marks (utf16_at plan) block))) second
