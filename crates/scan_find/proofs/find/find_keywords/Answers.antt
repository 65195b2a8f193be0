use Rattle.std.proofs.Common.{◌∙◌, ◌-◌, ◌++◌, ℕ, List, sym, ap, subst, eqb-true}
use Rattle.std.proofs.lemmas.List.{append-nil, nil_from_length}
use Rattle.std.proofs.lemmas.Result.{on_err_weaker, on_ok_weaker}
use Rattle.sbuf_nest.specs.Around.{Around}
use Rattle.sbuf_nest.specs.Marks.{owned_marks, AppendsFirst}
use Rattle.sbuf_nest.specs.declared.mark.Mark.{Mark}
use Rattle.scan_find.specs.Find.{keyword_of}
use Rattle.scan_find.specs.Marks.{numbered_marks}
use Rattle.scan_find.proofs.Pieces.{no_keywords}
use Rattle.scan_find.proofs.find.find_keywords.Goals as goal

judge : List (List ℕ) → Around → ℕ → List Mark
judge keywords look place = numbered_marks (λ keyword. keyword_of keyword look) 0 keywords place

pub returns-then-is_empty-clause-ok : goal.returns-then-is_empty-clause-ok
returns-then-is_empty-clause-ok c =
    let sb = c.args.sb.now in
    let found = c.args.found.now in
    sym (append-nil found) ∙ ap (λ some. found ++ some)
    (sym (no_keywords c.args.keywords.now sb.bytes.now sb.own_from (sb.own_to - sb.own_from) (nil_from_length c.args.keywords.now (eqb-true _ _ (sym c.if-is_empty.ensures)))))

pub returns-clause-ok : goal.returns-clause-ok
unfolding judge
returns-clause-ok c =
    on_ok_weaker c.find_marks.result
    (λ is. is ∙ ap (λ keywords. c.args.found.now ++ owned_marks (judge keywords) c.args.sb.now) c.of-keywords.ensures)
    c.find_marks.ensures.ok

pub returns-clause-err : goal.returns-clause-err
unfolding judge
returns-clause-err c =
    on_err_weaker c.find_marks.result
    (subst (λ keywords. AppendsFirst c.args.found.now c.find_marks.new.found (owned_marks (judge keywords) c.args.sb.now)) c.of-keywords.ensures)
    c.find_marks.ensures.err
