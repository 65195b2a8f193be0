use Rattle.std.proofs.Common.{◌≡◌, ◌∙◌, ◌++◌, ◌-◌, ◌*◌, ◌+◌, ◌<◌, ◌≤◌, [], List, map, min, length, IfSome, ap, refl, sym, arith}
use Rattle.image_source.specs.Image.{joined, size_of}
use Rattle.scan_set.specs.Here.{owned}
use Rattle.page_split.specs.declared.pages.Window.{Window}
use Rattle.page_split.proofs.PieceLists.{none_made, more_made, all_made}
use Rattle.page_split.proofs.page.page_features.Goals as goal

pub loop-next-init : goal.loop-next-init
loop-next-init g c =
    let first = ap (λ (w : Window). w.own_from) c.window-window.ensures in
    let last = ap (λ (w : Window). w.own_to) c.window-window.ensures in
    record {
      nature = ap g.S.Source.nature c.unload.ensures.source;
      parts = c.unload.ensures.parts;
      same = refl;
      sure = ap g.S.Source.faults c.unload.ensures.source;
      low = omega arith;
      high = omega (arith, first, last, c.requires.page);
      made = none_made _ _ _ _ _ _ c.new-features.ensures.items refl;
    }

pub loop-next-preserved : goal.loop-next-preserved
loop-next-preserved g c =
    let so_far = c.loop-next.invariant in
    let more : IfSome (joined (g.S.Source.nature c.args.image.now.source) c.args.image.now.parts) (λ bytes.
    c.add_piece.new.features.items ≡ c.loop-next.features.items
    ++ owned (map g.M.Matcher.matches (map g.M.Matcher.reading c.args.tools.now)) c.args.plan.now c.args.plan.now.depth [] bytes 0 c.loop-next.next (c.min-to.result - c.loop-next.next)) =
    rw (so_far.nature, so_far.parts, so_far.same) at c.in_ok-add_piece.ensures.made in
    record {
      nature = c.add_piece.ensures.nature ∙ so_far.nature;
      parts = c.add_piece.ensures.parts ∙ so_far.parts;
      same = c.add_piece.ensures.same ∙ so_far.same;
      sure = c.in_ok-add_piece.ensures.cause.works ∙ so_far.sure;
      low = omega (arith, so_far.low, c.min-to.ensures, c.loop-next-test.true);
      high = omega (arith, c.min-to.ensures);
      made = more_made _ _ _ _ _ _ c.loop-next.next _ so_far.low (omega (arith, c.min-to.ensures, c.loop-next-test.true)) so_far.made more;
    }

pub returns-clause-made : goal.returns-clause-made
returns-clause-made g c =
    let first : c.window-window.result.own_from ≡ c.args.page * c.args.pages.now.page = ap (λ (w : Window). w.own_from) c.window-window.ensures in
    let last = ap (λ (w : Window). w.own_to) c.window-window.ensures in
    let made : IfSome (joined (g.S.Source.nature c.args.image.now.source) c.args.image.now.parts) (λ bytes.
    c.loop-next.features.items ≡ owned (map g.M.Matcher.matches (map g.M.Matcher.reading c.args.tools.now)) c.args.plan.now c.args.plan.now.depth [] bytes 0
    (c.args.page * c.args.pages.now.page) (c.loop-next.next - c.args.page * c.args.pages.now.page)) =
    rw first at c.loop-next.invariant.made in
    let told : IfSome (joined (g.S.Source.nature c.args.image.now.source) c.args.image.now.parts) (λ bytes. c.size-size.result ≡ length bytes) =
    rw (c.unload.ensures.source, c.unload.ensures.parts) at c.size-size.ensures.told in
    let size : c.size-size.result ≡ c.args.pages.now.size = rw c.unload.ensures.parts at c.size-size.ensures.sum ∙ sym c.requires.size in
    all_made _ _ _ c.loop-next.features.items c.size-size.result c.args.pages.now.page c.args.page c.loop-next.next
    (omega (arith, c.requires.page, size)) (omega (arith, size, last, c.loop-next-test.false, c.loop-next.invariant.high)) told made
