use Rattle.std.proofs.Common.{◌≡◌, ◌∙◌, ◌-◌, map, ap, List, false}
use Rattle.sbuf_nest.specs.Marks.{owned_marks}
use Rattle.scan_set.specs.Events.{own_event, merged_events, plain_events}
use Rattle.scan_set.specs.Marks.{urls_at, packets_at, execs_at, given_at, words_at}
use Rattle.scan_set.specs.declared.event.Event.{Event}
use Rattle.scan_set.proofs.Searches.{listed, first_listed, both, stands_both, one_more, alike}
use Rattle.scan_set.proofs.Stands.{urls_stand, packets_stand, execs_stand, given_stand, words_stand, scanners_alike}
use Rattle.scan_set.proofs.search.search_scanners.Goals as goal

pub returns-clause-ok : goal.returns-clause-ok
returns-clause-ok g c =
    let plan = c.args.plan.now in
    let block = c.args.block.now in
    let patterns = map g.M.Matcher.matches (map g.M.Matcher.reading c.args.matchers.now) in
    let one = listed own_event (urls_at plan) in
    let two = both one (listed own_event (packets_at plan)) in
    let three = both two (listed own_event (execs_at plan)) in
    let four = both three (listed own_event (given_at patterns plan)) in
    let stand_two = stands_both one (listed own_event (packets_at plan)) (urls_stand patterns plan) (packets_stand patterns plan) in
    let stand_three = stands_both two (listed own_event (execs_at plan)) stand_two (execs_stand patterns plan) in
    let stand_four = stands_both three (listed own_event (given_at patterns plan)) stand_three (given_stand patterns plan) in
    let first : c.merge.new.self.items.items ≡ owned_marks one block =
    first_listed own_event (urls_at plan) block _ _ _ c.clear.ensures.items (c.marks.ensures ∙ c.in_ok-search_urls.ensures) c.in_ok-merge.ensures in
    let second = one_more own_event one (packets_at plan) (urls_stand patterns plan) (packets_stand patterns plan) block _ _ _ first (c.marks-2.ensures ∙ c.in_ok-search_packets.ensures) c.in_ok-merge-2.ensures in
    let third = one_more own_event two (execs_at plan) stand_two (execs_stand patterns plan) block _ _ _ second (c.marks-3.ensures ∙ c.in_ok-search_execs.ensures) c.in_ok-merge-3.ensures in
    let fourth = one_more own_event three (given_at patterns plan) stand_three (given_stand patterns plan) block _ _ _ third (c.marks-4.ensures ∙ c.in_ok-search_given.ensures.ok) c.in_ok-merge-4.ensures in
    one_more own_event four (words_at plan) stand_four (words_stand patterns plan) block _ _ _ fourth (c.marks-5.ensures ∙ c.in_ok-search_words.ensures) c.in_ok-merge-5.ensures
    ∙ alike block.bytes.now (both four (listed own_event (words_at plan))) (plain_events patterns plan false) (scanners_alike patterns plan)
    block.own_from (block.own_to - block.own_from)
