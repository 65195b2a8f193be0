use Rattle.std.proofs.Common.{◌≡◌, ◌∙◌, ◌+◌, ◌-◌, ◌<◌, ◌++◌, ℕ, List, Option, length, take, sym, ap, arith, eqb-true}
use Rattle.std.proofs.lemmas.List.{append-nil}
use Rattle.forensic_path.specs.declared.feature.Kind.TheVariants.{Find}
use Rattle.sbuf_nest.specs.Around.{seen}
use Rattle.sbuf_nest.specs.Marks.{marked}
use Rattle.sbuf_nest.proofs.SearchSteps.{on_err}
use Rattle.scan_find.specs.Find.{keyword_of}
use Rattle.scan_find.specs.Marks.{numbered_marks}
use Rattle.scan_find.proofs.Numbered.{numbered-none, one_more, few_of_them}
use Rattle.scan_find.proofs.Standing.{other_first, none_first, skipped, none_marked}
use Rattle.scan_find.proofs.keywords.Keywords.marks_into.Goals as goal

pub returns-then-is_empty-clause-ok : goal.returns-then-is_empty-clause-ok
returns-then-is_empty-clause-ok c =
    let keywords = c.args.self.now in
    let look = seen c.args.look.now in
    let extent : List ℕ → Option ℕ = λ keyword. keyword_of keyword look in
    let empty : length look.after ≡ 0 = eqb-true _ _ (sym c.if-is_empty.ensures) in
    let none = none_marked extent c.args.place 0 keywords.items.now (λ k d within. none_first _ look (keywords.texts k d within).0 empty) in
    sym (append-nil c.args.found.now) ∙ ap (λ some. c.args.found.now ++ some) (sym none)

pub loop-which-init : goal.loop-which-init
loop-which-init c =
    let keywords = c.args.self.now in
    let items = keywords.items.now in
    let look = seen c.args.look.now in
    let extent : List ℕ → Option ℕ = λ keyword. keyword_of keyword look in
    let which = c.first_with-which.result in
    let is = c.first_with-which.ensures in
    let e : 0 + which ≡ which = omega arith in
    let none = skipped extent c.args.place 0 items which 0 (omega (arith, is.high))
    (λ k d low high. other_first _ look (keywords.texts k d (omega (arith, high, is.high))).0
    (λ same. is.none k d low (omega (arith, high)) same)) in
    record {
      begins = is.begins;
      within = is.high;
      found = sym (append-nil c.args.found.now)
          ∙ ap (λ some. c.args.found.now ++ some) (sym (ap (λ n. numbered_marks extent 0 (take n items) c.args.place) (sym e) ∙ none ∙ numbered-none extent c.args.place 0));
    }

pub returns-in_err-add_extent-clause-err : goal.returns-in_err-add_extent-clause-err
returns-in_err-add_extent-clause-err c =
    on_err c.from_residual.result
    (few_of_them (λ (keyword : List ℕ). keyword_of keyword (seen c.args.look.now)) c.args.place 0 c.args.self.now.items.now c.args.found.now
    c.loop-which.which c.add_extent.new.self (c.in_err-add_extent.ensures.same ∙ c.loop-which.invariant.found))

pub loop-which-preserved : goal.loop-which-preserved
loop-which-preserved c =
    let keywords = c.args.self.now in
    let items = keywords.items.now in
    let look = seen c.args.look.now in
    let place = c.args.place in
    let extent : List ℕ → Option ℕ = λ keyword. keyword_of keyword look in
    let which = c.loop-which.which in
    let one = c.index-self-which.result in
    let next = c.next_with-which.result in
    let to = c.next_with-which.ensures one in
    let added = one_more extent place 0 items c.args.found.now which which one c.loop-which.found c.add_extent.new.self
    (omega arith) (omega arith) c.loop-which.invariant.found
    (c.in_ok-add_extent.ensures.added ∙ ap (λ some. c.loop-which.found ++ marked Find which place some) c.keyword_extent-extent.ensures) in
    let e : which + 1 + (next - (which + 1)) ≡ next = omega (arith, to.low) in
    let none = skipped extent place 0 items (next - (which + 1)) (which + 1) (omega (arith, to.low, to.high))
    (λ k d low high. other_first _ look (keywords.texts k d (omega (arith, high, to.low, to.high))).0
    (λ same. to.none k d low (omega (arith, high, to.low)) (same ∙ sym (c.loop-which.invariant.begins one (omega arith))))) in
    record {
      begins = λ d below. to.begins d below ∙ c.loop-which.invariant.begins one (omega arith);
      within = to.high;
      found = added ∙ ap (λ some. c.args.found.now ++ some) (sym none ∙ ap (λ n. numbered_marks extent 0 (take n items) place) e);
    }

pub loop-which-smaller : goal.loop-which-smaller
loop-which-smaller c =
    let to = c.next_with-which.ensures c.index-self-which.result in
    let n = length c.args.self.now.items.now in
    let further : n - c.next_with-which.result < n - c.loop-which.which = omega (arith, to.low) in
    further
