use Rattle.std.proofs.Common.{◌≡◌, ◌∙◌, ◌-◌, [], ◌++◌, ◌==◌, ℕ, List, Option, length, map, take, get_or, sym, ap, subst}
use Rattle.std.specs.Prelude.{if◌then◌else◌}
use Rattle.std.proofs.lemmas.Result.{on_err_weaker, on_ok_weaker}
use Rattle.sbuf_nest.specs.Around.{Around}
use Rattle.sbuf_nest.specs.Marks.{marks_of, owned_marks, AppendsFirst}
use Rattle.sbuf_nest.specs.declared.mark.Mark.{Mark}
use Rattle.sbuf_nest.specs.declared.sbuf.Sbuf.{Sbuf}
use Rattle.scan_find.specs.Find.{keyword_of, of_some_length}
use Rattle.scan_find.specs.Hits.{AreHits}
use Rattle.scan_find.specs.Lengths.{length_of, AreRows}
use Rattle.scan_find.specs.Marks.{numbered_marks, given_marks}
use Rattle.scan_find.specs.declared.TheConstants.{KEYWORDS_MOST}
use Rattle.scan_find.specs.declared.lengths.Row.{Row}
use Rattle.scan_find.proofs.Pieces.{by_piece, owned-piece}
use Rattle.scan_find.proofs.find.search_piece.Goals as goal

-- the judge of the search
judged : List (List ℕ) → List Row → List ℕ → ℕ → Around → ℕ → List Mark
judged keywords rows hits first look place =
    if get_or hits (place - first) 0 == 0 then [] else
    numbered_marks (λ keyword. keyword_of keyword look) 0 keywords place
    ++ numbered_marks (λ (row : Row). of_some_length (length_of row (place - first))) KEYWORDS_MOST rows place

-- the marks of the piece are those that were to be found
found : (patterns : List (List ℕ → Option ℕ)) (keywords : List (List ℕ)) (bytes : List ℕ) (first to : ℕ) (filled kept rows : List Row) (n m : ℕ) (marked hits : List ℕ) (piece : Sbuf) →
    AreRows patterns bytes first (to - first) (take n filled) → AreHits keywords bytes first (to - first) (take m filled) marked →
    m ≡ n → kept ≡ filled → rows ≡ take m kept → hits ≡ marked → piece.bytes.now ≡ bytes → piece.own_from ≡ first → piece.own_to ≡ to →
    owned_marks (judged keywords rows hits first) piece ≡ marks_of (given_marks keywords patterns) bytes first (to - first)
unfolding judged
found patterns keywords bytes first to filled kept rows n m marked hits piece are hit same_many same_rows rows_are hits_are bytes_are from_is to_is =
    let rows_is : take m filled ≡ rows = ap (take m) (sym same_rows) ∙ sym rows_are in
    owned-piece (judged keywords rows hits first) piece bytes first to bytes_are from_is to_is
    ∙ by_piece patterns bytes first (to - first) rows
    (subst (λ (some : List Row). AreRows patterns bytes first (to - first) some) (ap (λ k. take k filled) (sym same_many) ∙ rows_is) are) keywords hits
    (subst (λ (some : List Row). AreHits keywords bytes first (to - first) some hits) rows_is
    (subst (AreHits keywords bytes first (to - first) (take m filled)) (sym hits_are) hit))

pub returns-clause-ok : goal.returns-clause-ok
unfolding judged
returns-clause-ok g c =
    let patterns : List (List ℕ → Option ℕ) = map g.M.Matcher.matches (map g.M.Matcher.reading c.args.matchers.now) in
    on_ok_weaker c.find_marks.result
    (λ is. is ∙ ap (λ some. c.args.found.now ++ some)
    (found patterns c.args.keywords.now.items.now c.args.sb.now.bytes.now c.args.places.from c.args.places.to c.fill.new.self.rows c.hit.new.self.rows c.rows.result.now
    (length c.args.matchers.now) _ c.hit.new.self.hits.items c.hits.result.now c.of.result c.in_ok-fill.ensures.ok c.in_ok-hit.ensures.ok c.fill.auto.matchers
    c.in_ok-hit.ensures.same c.rows.ensures c.hits.ensures c.of.ensures.bytes c.of.ensures.own_from c.of.ensures.own_to))
    c.find_marks.ensures.ok

pub returns-clause-err : goal.returns-clause-err
unfolding judged
returns-clause-err g c =
    let patterns : List (List ℕ → Option ℕ) = map g.M.Matcher.matches (map g.M.Matcher.reading c.args.matchers.now) in
    on_err_weaker c.find_marks.result
    (subst (AppendsFirst c.args.found.now c.find_marks.new.found)
    (found patterns c.args.keywords.now.items.now c.args.sb.now.bytes.now c.args.places.from c.args.places.to c.fill.new.self.rows c.hit.new.self.rows c.rows.result.now
    (length c.args.matchers.now) _ c.hit.new.self.hits.items c.hits.result.now c.of.result c.in_ok-fill.ensures.ok c.in_ok-hit.ensures.ok c.fill.auto.matchers
    c.in_ok-hit.ensures.same c.rows.ensures c.hits.ensures c.of.ensures.bytes c.of.ensures.own_from c.of.ensures.own_to))
    c.find_marks.ensures.err
