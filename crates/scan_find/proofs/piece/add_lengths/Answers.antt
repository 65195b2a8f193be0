use Rattle.std.proofs.Common.{◌∙◌, ◌+◌, ◌++◌, ℕ, Option, slice_index, sym, ap, refl, arith}
use Rattle.std.proofs.lemmas.List.{append-nil, get_or_read}
use Rattle.forensic_path.specs.declared.feature.Kind.TheVariants.{Find}
use Rattle.sbuf_nest.specs.Marks.{marked}
use Rattle.sbuf_nest.proofs.SearchSteps.{on_err}
use Rattle.scan_find.specs.Find.{of_some_length}
use Rattle.scan_find.specs.declared.TheConstants.{KEYWORDS_MOST}
use Rattle.scan_find.specs.declared.lengths.Row.{Row}
use Rattle.scan_find.proofs.Numbered.{numbered-none, one_more, few_of_them}
use Rattle.scan_find.proofs.piece.add_lengths.Goals as goal

pub loop-k-init : goal.loop-k-init
loop-k-init c =
    sym (append-nil c.args.found.now)
    ∙ ap (λ none. c.args.found.now ++ none) (sym (numbered-none (λ (row : Row). of_some_length (slice_index row.lengths.items c.args.number)) c.args.place KEYWORDS_MOST))

pub returns-in_err-add_extent-clause-err : goal.returns-in_err-add_extent-clause-err
returns-in_err-add_extent-clause-err c =
    on_err c.from_residual.result
    (few_of_them (λ (row : Row). of_some_length (slice_index row.lengths.items c.args.number)) c.args.place KEYWORDS_MOST c.args.rows.now c.args.found.now
    c.loop-k.k c.add_extent.new.self (c.in_err-add_extent.ensures.same ∙ c.loop-k.invariant))

pub loop-k-preserved : goal.loop-k-preserved
loop-k-preserved c =
    let extent : Row → Option ℕ = λ (row : Row). of_some_length (slice_index row.lengths.items c.args.number) in
    let rows = c.args.rows.now in
    let k = c.loop-k.k in
    let is = get_or_read rows k c.index-rows-k.result (omega arith) c.index-rows-k.is c.index-rows-k.result in
    one_more extent c.args.place KEYWORDS_MOST rows c.args.found.now k (KEYWORDS_MOST + k) c.index-rows-k.result c.loop-k.found c.add_extent.new.self
    (omega arith) refl c.loop-k.invariant
    (c.in_ok-add_extent.ensures.added
    ∙ ap (λ some. c.loop-k.found ++ marked Find (KEYWORDS_MOST + k) c.args.place some) (c.some_length.ensures ∙ ap of_some_length c.length_at.ensures ∙ ap extent is))
