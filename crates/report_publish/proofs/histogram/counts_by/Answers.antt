use Rattle.std.proofs.Common.{◌≡◌, ◌∙◌, ◌++◌, ◌∷◌, ◌+◌, [], ℕ, List, Some, take, subst, sym, ap, arith}
use Rattle.std.proofs.lemmas.List.{take_more, take_all, length-take-le}
use Rattle.forensic_path.specs.declared.feature.Classed.{Classed}
use Rattle.feature_file.specs.FeatureFile.{stands_in}
use Rattle.count_histogram.specs.Rules.{item_of}
use Rattle.count_histogram.specs.Counts.{AreCounts}
use Rattle.count_histogram.specs.declared.row.Row.{Row}
use Rattle.count_histogram.specs.Histogram.{items_of}
use Rattle.count_histogram.proofs.ForCallers.{has_room}
use Rattle.report_publish.proofs.Items.{few_items, counted_more, counted_same}
use Rattle.report_publish.proofs.histogram.counts_by.Goals as goal
use Rattle.report_publish.proofs.histogram.counts_by.Goals.{then-stands_in+in_ok-item_into+in_ok-add, else-stands_in}

pub add-requires : goal.add-requires
add-requires c =
    let seen = take c.loop-item.item-index c.args.items.now in
    let few = few_items c.args.rule seen in
    let short = length-take-le c.loop-item.item-index c.args.items.now (omega arith) in
    has_room c.loop-item.counts (items_of (Some c.args.rule) seen) c.as_slice-then-stands_in.result.now c.loop-item.invariant (omega arith)

pub loop-item-preserved : goal.loop-item-preserved
loop-item-preserved c =
    let rule = c.args.rule in
    let item = c.item-item.result in
    let seen = take c.loop-item.item-index c.args.items.now in
    let more : seen ++ item ∷ [] ≡ take (c.loop-item.item-index + 1) c.args.items.now =
    ap (λ (item : Classed). seen ++ item ∷ []) c.item-item.is ∙ sym (take_more c.args.items.now c.loop-item.item-index item c.loop-item-test.true) in
    subst (λ (list : List Classed). AreCounts c.if-stands_in.counts (items_of (Some rule) list)) more
    (elim c.if-stands_in.branch [
      | then-stands_in+in_ok-item_into+in_ok-add w ↦
          let text = w.as_slice-then-stands_in.result.now in
          counted_more rule seen item text c.loop-item.counts c.if-stands_in.counts
          (ap (λ (number : ℕ). stands_in number item) (sym c.source.ensures) ∙ sym c.stands_in.ensures ∙ w.if-stands_in.true)
          (w.as_slice-then-stands_in.ensures.value ∙ w.in_ok-item_into.ensures.appended
          ∙ ap (λ (front : List ℕ). front ++ item_of rule w.as_slice.result.now) w.clear.ensures.items
          ∙ ap (λ (feature : List ℕ). item_of rule feature) w.as_slice.ensures)
          (λ items before. subst (λ (now : List Row). AreCounts now (items ++ text ∷ [])) (sym w.counts-is) (w.in_ok-add.ensures.added items before))
          c.loop-item.invariant
      | else-stands_in w ↦
          counted_same rule seen item c.if-stands_in.counts
          (ap (λ (number : ℕ). stands_in number item) (sym c.source.ensures) ∙ sym c.stands_in.ensures ∙ w.if-stands_in.false)
          (subst (λ (now : List Row). AreCounts now (items_of (Some rule) seen)) (sym w.counts-is) c.loop-item.invariant)
    ])

pub returns : goal.returns
returns c =
    subst (λ (list : List Classed). AreCounts c.loop-item.counts (items_of (Some c.args.rule) list))
    (take_all c.loop-item.item-index c.args.items.now c.loop-item-test.false) c.loop-item.invariant
