use Rattle.std.proofs.Common.{◌≡◌, ◌∙◌, ◌-◌, map, refl, true, false}
use Rattle.sbuf_nest.specs.Marks.{owned_marks}
use Rattle.scan_set.specs.Decoders.{base64_at, hex_at, utf16_at}
use Rattle.scan_set.specs.Events.{text_event, merged_events, plain_events}
use Rattle.scan_set.proofs.Searches.{listed, both, stands_both, one_more, alike}
use Rattle.scan_set.proofs.Stands.{base64_stand, hex_stand, utf16_stand, plain_stand, decoders_alike}
use Rattle.scan_set.proofs.search.search_block.Goals as goal

pub returns-clause-ok : goal.returns-clause-ok
returns-clause-ok g c =
    let plan = c.args.plan.now in
    let block = c.args.block.now in
    let patterns = map g.M.Matcher.matches (map g.M.Matcher.reading c.args.matchers.now) in
    let one = plain_events patterns plan false in
    let two = both one (listed text_event (base64_at plan)) in
    let three = both two (listed text_event (hex_at plan)) in
    let stand_one = plain_stand patterns plan false in
    let stand_two = stands_both one (listed text_event (base64_at plan)) stand_one (base64_stand patterns plan) in
    let stand_three = stands_both two (listed text_event (hex_at plan)) stand_two (hex_stand patterns plan) in
    let first = one_more text_event one (base64_at plan) stand_one (base64_stand patterns plan) block _ _ _ c.in_ok-search_scanners.ensures.ok refl refl in
    let second = one_more text_event two (hex_at plan) stand_two (hex_stand patterns plan) block _ _ _ first refl refl in
    let third = one_more text_event three (utf16_at plan) stand_three (utf16_stand patterns plan) block _ _ _ second refl c.in_ok-search_decoders.ensures in
    let on : c.args.nests ≡ true = c.if-not-nests.false in
    rw on (third ∙ alike block.bytes.now (both three (listed text_event (utf16_at plan))) (plain_events patterns plan true) (decoders_alike patterns plan)
    block.own_from (block.own_to - block.own_from))
