-- The items that features have by a rule, feature by feature.
use Rattle.std.proofs.Common.{◌≡◌, ◌≤◌, ◌∙◌, ℕ, Bool, true, false, cond, List, [], ◌∷◌, ◌++◌, map, filter, length, Some, ap, sym, subst, arith, append-nil}
use Rattle.std.proofs.lemmas.List.{map-append, length-map}
use Rattle.std.proofs.lemmas.List.Elements.{filter-append}
use Rattle.std.proofs.lemmas.List.Sums.{length-filter, count_by-le-length}
use Rattle.forensic_path.specs.declared.feature.Classed.{Classed}
use Rattle.feature_file.specs.FeatureFile.{stands_in}
use Rattle.count_histogram.specs.Rules.{source_of, item_of}
use Rattle.count_histogram.specs.Histogram.{items_of}
use Rattle.count_histogram.specs.Counts.{AreCounts}
use Rattle.count_histogram.specs.declared.rule.Rule.{Rule}
use Rattle.count_histogram.specs.declared.row.Row.{Row}

module _ (rule : Rule) (list : List Classed) where
  is_counted : Classed → Bool
  is_counted = stands_in (source_of rule)

  item_by : Classed → List ℕ
  item_by c = item_of rule c.item.feature

  -- no feature has two items
  pub few_items : length (items_of (Some rule) list) ≤ length list
  unfolding item_by is_counted
  few_items =
      let mapped = length-map (filter is_counted list) item_by in
      let kept = length-filter is_counted list in
      let most = count_by-le-length is_counted list in
      omega arith

  items_more : (item : Classed) (own : List (List ℕ)) → map item_by (filter is_counted (item ∷ [])) ≡ own →
      items_of (Some rule) (list ++ item ∷ []) ≡ items_of (Some rule) list ++ own
  unfolding item_by is_counted
  items_more item own is =
      ap (map item_by) (filter-append is_counted list (item ∷ []))
      ∙ map-append item_by (filter is_counted list) (filter is_counted (item ∷ []))
      ∙ ap (λ more. map item_by (filter is_counted list) ++ more) is

  abbrev items_if : Classed → Bool → List (List ℕ)
  items_if item stands = map item_by (cond stands (item ∷ []) [])

  -- a feature that is counted adds its item to the counts
  pub counted_more : (item : Classed) (text : List ℕ) (counts now : List Row) → stands_in (source_of rule) item ≡ true → text ≡ item_of rule item.item.feature
      → ((items : List (List ℕ)) → AreCounts counts items → AreCounts now (items ++ text ∷ []))
      → AreCounts counts (items_of (Some rule) list) → AreCounts now (items_of (Some rule) (list ++ item ∷ []))
  unfolding item_by is_counted
  counted_more item text counts now stands is added before =
      subst (λ (items : List (List ℕ)). AreCounts now items)
      (sym (items_more item (text ∷ []) (ap (items_if item) stands ∙ ap (λ (text : List ℕ). text ∷ []) (sym is))))
      (added (items_of (Some rule) list) before)

  -- any other feature adds nothing
  pub counted_same : (item : Classed) (counts : List Row) → stands_in (source_of rule) item ≡ false
      → AreCounts counts (items_of (Some rule) list) → AreCounts counts (items_of (Some rule) (list ++ item ∷ []))
  unfolding item_by is_counted
  counted_same item counts stands before =
      subst (λ (items : List (List ℕ)). AreCounts counts items)
      (sym (items_more item [] (ap (items_if item) stands) ∙ append-nil (items_of (Some rule) list))) before
