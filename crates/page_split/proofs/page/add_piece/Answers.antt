use Rattle.std.proofs.Common.{◌≡◌, ◌∙◌, ◌++◌, ◌-◌, ◌≤◌, [], List, map, length, ap, arith}
use Rattle.scan_set.specs.Here.{owned}
use Rattle.page_split.proofs.PieceLists.{piece_made}
use Rattle.page_split.proofs.page.add_piece.Goals as goal

pub overflow_add-to : goal.overflow_add-to
overflow_add-to g c = let piece = c.requires.piece in omega (arith, c.requires.small, piece.last, piece.inside, piece.within)

pub load-requires-clause-ordered : goal.load-requires-clause-ordered
load-requires-clause-ordered g c =
    let piece = c.requires.piece in
    omega (arith, c.saturating_sub.ensures, c.max-from.ensures, c.min-end.ensures, piece.first, piece.ordered, piece.last, piece.ahead, piece.inside)

pub of-piece-requires-clause-within : goal.of-piece-requires-clause-within
of-piece-requires-clause-within g c =
    let piece = c.requires.piece in
    let long : length c.window.result.now ≡ c.min-end.result - c.max-from.result = ap length c.window.ensures ∙ c.in_ok-load.ensures.length in
    omega (arith, long, c.min-end.ensures, piece.last, piece.inside)

pub of-piece-requires-clause-placed : goal.of-piece-requires-clause-placed
of-piece-requires-clause-placed g c =
    let piece = c.requires.piece in
    let long : length c.window.result.now ≡ c.min-end.result - c.max-from.result = ap length c.window.ensures ∙ c.in_ok-load.ensures.length in
    omega (arith, long, c.saturating_sub.ensures, c.max-from.ensures, c.min-end.ensures, piece.first, piece.ordered, piece.last, piece.ahead, piece.inside, piece.within, c.requires.small)

pub returns-clause-made : goal.returns-clause-made
returns-clause-made g c =
    let piece = c.requires.piece in
    let patterns = map g.M.Matcher.matches (map g.M.Matcher.reading c.args.tools.now) in
    let plan = c.args.plan.now in
    let from = c.max-from.result in
    let found : c.in_ok-found.found.items ≡ owned patterns plan plan.depth [] c.load.new.self.window from (c.args.next - from) (c.args.to - from - (c.args.next - from)) =
    rw (c.of-piece.ensures.bytes, c.of-piece.ensures.base, c.of-piece.ensures.own_from, c.of-piece.ensures.own_to, c.window.ensures) at c.in_ok-found.ensures.made in
    piece_made patterns plan _ _ from c.min-end.result c.args.next c.args.to c.load.new.self.window c.args.features.now.items c.in_ok-found.found.items c.append.new.self.items
    found c.in_ok-append.ensures.items
    (omega (arith, c.saturating_sub.ensures, c.max-from.ensures, piece.first, piece.ahead))
    piece.ordered
    (omega (arith, c.min-end.ensures, piece.last, piece.inside))
    (omega (arith, c.min-end.ensures, piece.last, piece.behind))
    c.requires.told c.in_ok-load.ensures.bytes
