use Rattle.std.proofs.Common.{◌≡◌, map, IfSome}
use Rattle.image_source.specs.Image.{joined}
use Rattle.triage_run.proofs.Pages.{items_of_pages}
use Rattle.triage_run.proofs.find.find_items.Given as goal

-- the features of the pages ahead of `page` are classed, and image and matchers mean what they meant
abbrev pub invariant-loop-page : goal.invariant-loop-page
invariant-loop-page g l = record {
  nature : g.S.Source.nature l.image.source ≡ g.S.Source.nature l.fn.image.source;
  parts : l.image.parts ≡ l.fn.image.parts;
  sure : g.S.Source.faults l.image.source ≡ g.S.Source.faults l.fn.image.source;
  same : map g.M.Matcher.reading l.tools ≡ map g.M.Matcher.reading l.fn.matchers.items;
  items : IfSome (joined (g.S.Source.nature l.fn.image.source) l.fn.image.parts) (λ bytes.
      l.items.items ≡ items_of_pages l.lists (map g.M.Matcher.matches (map g.M.Matcher.reading l.fn.matchers.items)) l.plan l.pages.page bytes l.page);
}
