use Rattle.std.proofs.Common.{◌≡◌, ◌∙◌, ◌-◌, [], ◌==◌, ℕ, Bool, true, false, not, List, get_or, sym, ap, subst, refl}
use Rattle.std.specs.Prelude.{if◌then◌else◌}
use Rattle.std.proofs.lemmas.Result.{on_err_weaker}
use Rattle.sbuf_nest.specs.Around.{seen}
use Rattle.sbuf_nest.specs.Marks.{AppendsFirst}
use Rattle.sbuf_nest.specs.declared.mark.Mark.{Mark}
use Rattle.sbuf_nest.proofs.MarkLists.{AppendsFirst-front, AppendsFirst-behind}
use Rattle.sbuf_nest.proofs.SearchSteps.{on_err}
use Rattle.scan_find.specs.Find.{keyword_of, of_some_length}
use Rattle.scan_find.specs.Lengths.{length_of}
use Rattle.scan_find.specs.Marks.{numbered_marks}
use Rattle.scan_find.specs.declared.TheConstants.{KEYWORDS_MOST}
use Rattle.scan_find.specs.declared.lengths.Row.{Row}
use Rattle.scan_find.proofs.piece.PieceSearchSearch.marks_into.Goals as goal

-- a place that is hit has all of its marks
when_hit : (missed : Bool) (marks : List Mark) → not missed ≡ true → marks ≡ (if missed then [] else marks)
when_hit false marks hit = refl
when_hit true marks hit = cc

pub returns-in_err-marks_into-clause-err : goal.returns-in_err-marks_into-clause-err
returns-in_err-marks_into-clause-err c =
    on_err c.from_residual.result
    (subst (AppendsFirst c.args.found.now c.marks_into.new.found) (when_hit _ _ (ap (λ n. not (get_or c.args.self.now.hits.now n 0 == 0)) (sym c.saturating_sub-number.ensures) ∙ sym c.is_hit.ensures ∙ c.if-not-is_hit.false)) (AppendsFirst-front _ _ _ _ c.in_err-marks_into.ensures.err))

pub returns-clause-err : goal.returns-clause-err
returns-clause-err c =
    let search = c.args.self.now in
    let place = c.args.place in
    let front = numbered_marks (λ (keyword : List ℕ). keyword_of keyword (seen c.args.look.now)) 0 search.keywords.now.items.now place in
    let back : ℕ → List Mark = λ number. numbered_marks (λ (row : Row). of_some_length (length_of row number)) KEYWORDS_MOST search.rows.now place in
    on_err_weaker c.add_lengths.result
    (λ few. subst (AppendsFirst c.args.found.now c.add_lengths.new.found) (when_hit _ _ (ap (λ n. not (get_or c.args.self.now.hits.now n 0 == 0)) (sym c.saturating_sub-number.ensures) ∙ sym c.is_hit.ensures ∙ c.if-not-is_hit.false))
    (AppendsFirst-behind c.args.found.now c.add_lengths.new.found front (back (place - search.first))
    (subst (λ (old : List Mark). AppendsFirst old c.add_lengths.new.found (back (place - search.first))) c.in_ok-marks_into.ensures.ok
    (subst (λ (number : ℕ). AppendsFirst c.marks_into.new.found c.add_lengths.new.found (back number)) c.saturating_sub-number.ensures few))))
    c.add_lengths.ensures.err
