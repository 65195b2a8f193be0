use Rattle.std.proofs.Common.{◌≡◌, ◌∙◌, ◌+◌, ◌-◌, ◌++◌, ℕ, List, Option, map, refl, subst, arith}
use Rattle.std.proofs.lemmas.List.{append-nil}
use Rattle.sbuf_nest.specs.Marks.{marks_of, AppendsFirst}
use Rattle.sbuf_nest.proofs.MarkLists.{marks_of-zero}
use Rattle.sbuf_nest.proofs.SearchSteps.{on_err, none_here, appended, cut_short}
use Rattle.scan_find.specs.Marks.{given_marks}
use Rattle.scan_find.proofs.find.search_pieces.Goals as goal

pub loop-next-init : goal.loop-next-init
loop-next-init g c =
    let patterns : List (List ℕ → Option ℕ) = map g.M.Matcher.matches (map g.M.Matcher.reading c.args.matchers.now) in
    let sb = c.args.sb.now in
    let e : c.own_from-next.result - sb.own_from ≡ 0 = omega (arith, c.own_from-next.ensures) in
    record {
      low = omega (arith, c.own_from-next.ensures);
      high = omega (arith, c.own_from-next.ensures, sb.ordered);
      same = refl;
      found = rw (e, marks_of-zero (given_marks c.args.keywords.now.items.now patterns) sb.bytes.now sb.own_from, append-nil c.args.found.now) refl;
    }

pub returns-in_err-search_piece-clause-err : goal.returns-in_err-search_piece-clause-err
returns-in_err-search_piece-clause-err g c =
    let matches : List g.M.Matcher.Reading → List (List ℕ → Option ℕ) = map g.M.Matcher.matches in
    let judge = given_marks c.args.keywords.now.items.now (matches (map g.M.Matcher.reading c.args.matchers.now)) in
    let sb = c.args.sb.now in
    let inv = c.loop-next.invariant in
    on_err c.from_residual.result
    (cut_short judge sb.bytes.now sb.own_from c.loop-next.next c.loop-next.next inv.low (omega arith) (none_here judge sb.bytes.now c.loop-next.next)
    (c.loop-next.next + c.min.result) sb.own_to (omega arith) (omega (arith, c.min.ensures)) c.args.found.now c.loop-next.found c.search_piece.new.found inv.found
    (subst (λ readings. AppendsFirst c.loop-next.found c.search_piece.new.found (marks_of (given_marks c.args.keywords.now.items.now (matches readings)) sb.bytes.now c.loop-next.next (c.loop-next.next + c.min.result - c.loop-next.next)))
    inv.same c.in_err-search_piece.ensures.err))

pub loop-next-preserved : goal.loop-next-preserved
loop-next-preserved g c =
    let matches : List g.M.Matcher.Reading → List (List ℕ → Option ℕ) = map g.M.Matcher.matches in
    let judge = given_marks c.args.keywords.now.items.now (matches (map g.M.Matcher.reading c.args.matchers.now)) in
    let sb = c.args.sb.now in
    let next = c.loop-next.next in
    let end = next + c.min.result in
    let inv = c.loop-next.invariant in record {
      low = omega (arith, inv.low);
      high = omega (arith, inv.high, c.min.ensures, c.own_to-in-loop-next.ensures);
      same = c.in_ok-search_piece.ensures.same ∙ inv.same;
      found = appended judge sb.bytes.now sb.own_from next next inv.low (omega arith) (none_here judge sb.bytes.now next)
          end (omega arith) c.args.found.now c.loop-next.found c.search_piece.new.found inv.found
          (subst (λ readings. c.search_piece.new.found ≡ c.loop-next.found ++ marks_of (given_marks c.args.keywords.now.items.now (matches readings)) sb.bytes.now next (end - next))
          inv.same c.in_ok-search_piece.ensures.ok);
    }
