use Rattle.std.proofs.Common.{◌≡◌, ◌-◌, ◌≤◌, [], map, ℕ, IfSome}
use Rattle.image_source.specs.Image.{joined}
use Rattle.scan_set.specs.Here.{owned}
use Rattle.page_split.proofs.page.page_features.Given as goal

abbrev pub invariant-loop-next : goal.invariant-loop-next
invariant-loop-next g l = record {
  nature : g.S.Source.nature l.image.source ≡ g.S.Source.nature l.fn.image.source;
  parts : l.image.parts ≡ l.fn.image.parts;
  same : map g.M.Matcher.reading l.tools ≡ map g.M.Matcher.reading l.fn.tools;
  sure : g.S.Source.faults l.image.source ≡ g.S.Source.faults l.fn.image.source;
  low : l.window.own_from ≤ l.next;
  high : l.next ≤ l.window.own_to;
  made : IfSome (joined (g.S.Source.nature l.fn.image.source) l.fn.image.parts) (λ bytes.
      l.features.items ≡ owned (map g.M.Matcher.matches (map g.M.Matcher.reading l.fn.tools)) l.plan l.plan.depth [] bytes 0 l.window.own_from (l.next - l.window.own_from));
}

abbrev pub decreases-loop-next : goal.decreases-loop-next
decreases-loop-next g l = l.window.own_to - l.next
