use Rattle.std.proofs.Common.{◌≡◌, ◌∙◌, ℕ, List, Option, map, arith}
use Rattle.image_source.specs.Image.{joined}
use Rattle.triage_run.proofs.Pages.{of_page_more, of_all_pages}
use Rattle.triage_run.proofs.find.find_items.Goals as goal

pub loop-page-preserved : goal.loop-page-preserved
loop-page-preserved g c =
    let inv = c.loop-page.invariant in
    let patterns : List (List ℕ → Option ℕ) = map g.M.Matcher.matches (map g.M.Matcher.reading c.args.matchers.items) in
    let told = joined (g.S.Source.nature c.args.image.now.source) c.args.image.now.parts in
    let made = rw (inv.nature, inv.parts, inv.same) at c.in-Ok.ensures.made in
    record {
      nature = c.in-Ok.ensures.nature ∙ inv.nature;
      parts = c.in-Ok.ensures.parts ∙ inv.parts;
      sure = c.in-Ok.ensures.cause.works ∙ inv.sure;
      same = c.in-Ok.ensures.same ∙ inv.same;
      items = of_page_more c.args.lists.now patterns c.args.plan.now c.args.pages.now.page told c.loop-page.items.items _ c.in-Ok.features.items c.loop-page.page
          inv.items made c.in_ok-class_into.ensures;
    }

pub returns-clause-items : goal.returns-clause-items
returns-clause-items g c =
    let patterns : List (List ℕ → Option ℕ) = map g.M.Matcher.matches (map g.M.Matcher.reading c.args.matchers.items) in
    let told = joined (g.S.Source.nature c.args.image.now.source) c.args.image.now.parts in
    let end : c.loop-page.page ≡ c.count-page-end.result = omega arith in
    of_all_pages c.args.lists.now patterns c.args.plan.now c.args.pages.now.page told c.loop-page.items.items c.args.pages.now.size c.loop-page.page
    (omega (arith, c.args.pages.now.page_least)) c.loop-page.invariant.items c.requires.told (end ∙ c.count-page-end.ensures.count)
