use Rattle.std.proofs.Common.{◌≡◌, ◌∙◌, ◌-◌, [], ◌++◌, ℕ, List, Option, map, sym, ap, subst, eqb-true}
use Rattle.std.proofs.lemmas.List.{nil_from_length, length-map}
use Rattle.std.proofs.lemmas.Result.{on_err_weaker, on_ok_weaker}
use Rattle.sbuf_nest.specs.Marks.{owned_marks, AppendsFirst}
use Rattle.scan_find.specs.Marks.{given_marks}
use Rattle.scan_find.proofs.Pieces.{keywords_alone}
use Rattle.scan_find.proofs.find.find_given_into.Goals as goal

pub returns-then-is_empty-clause-ok : goal.returns-then-is_empty-clause-ok
returns-then-is_empty-clause-ok g c =
    let sb = c.args.sb.now in
    let patterns : List (List ℕ → Option ℕ) = map g.M.Matcher.matches (map g.M.Matcher.reading c.args.matchers.now) in
    let none : patterns ≡ [] =
    nil_from_length patterns
    (length-map (map g.M.Matcher.reading c.args.matchers.now) g.M.Matcher.matches ∙ length-map c.args.matchers.now g.M.Matcher.reading ∙ eqb-true _ _ (sym c.if-is_empty.ensures)) in
    on_ok_weaker c.find_keywords.result
    (λ is. is ∙ ap (λ some. c.args.found.now ++ some) (keywords_alone c.args.keywords.now patterns sb.bytes.now sb.own_from (sb.own_to - sb.own_from) none))
    c.find_keywords.ensures.ok

pub returns-then-is_empty-clause-err : goal.returns-then-is_empty-clause-err
returns-then-is_empty-clause-err g c =
    let sb = c.args.sb.now in
    let patterns : List (List ℕ → Option ℕ) = map g.M.Matcher.matches (map g.M.Matcher.reading c.args.matchers.now) in
    let none : patterns ≡ [] =
    nil_from_length patterns
    (length-map (map g.M.Matcher.reading c.args.matchers.now) g.M.Matcher.matches ∙ length-map c.args.matchers.now g.M.Matcher.reading ∙ eqb-true _ _ (sym c.if-is_empty.ensures)) in
    on_err_weaker c.find_keywords.result
    (subst (AppendsFirst c.args.found.now c.find_keywords.new.found)
    (keywords_alone c.args.keywords.now patterns sb.bytes.now sb.own_from (sb.own_to - sb.own_from) none))
    c.find_keywords.ensures.err

pub returns-clause-err : goal.returns-clause-err
returns-clause-err g c =
    let patterns : List (List ℕ → Option ℕ) = map g.M.Matcher.matches (map g.M.Matcher.reading c.args.matchers.now) in
    on_err_weaker c.search_pieces.result
    (subst (λ keywords. AppendsFirst c.args.found.now c.search_pieces.new.found (owned_marks (given_marks keywords patterns) c.args.sb.now)) c.of-keywords.ensures)
    c.search_pieces.ensures.err
