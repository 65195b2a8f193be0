-- The features of pages, one behind the other, each with its class.
use Rattle.std.proofs.Common.{◌≡◌, ◌∙◌, arith, ℕ, zero, suc, ◌+◌, ◌*◌, ◌<◌, ◌≤◌, List, [], ◌∷◌, ◌++◌, length, map, Option, Some, None, ap, sym}
use Rattle.std.specs.Prelude.{IfSome}
use Rattle.std.specs.Int.{div_ceil}
use Rattle.std.specs.List.{range_with_len, flat_map}
use Rattle.std.proofs.lemmas.Grind.{div_ceil_times, flat_map-append}
use Rattle.std.proofs.lemmas.List.{map-append, append-nil}
use Rattle.forensic_path.specs.declared.feature.Classed.{Classed}
use Rattle.forensic_path.specs.declared.feature.Feature.{Feature}
use Rattle.page_split.specs.Features.{page_list}
use Rattle.page_split.proofs.Joins.{pages_join}
use Rattle.scan_set.specs.declared.plan.ScanPlan.{ScanPlan}
use Rattle.stop_lists.specs.Lists.{ListEntries}
use Rattle.triage_run.specs.Image.{items_under}
use Rattle.triage_run.specs.Lists.{classed_under}

-- one number more
range_more : (first count next : ℕ) → first + count ≡ next → range_with_len first (suc count) ≡ range_with_len first count ++ next ∷ []
range_more first zero next is = let same : first ≡ next = omega (arith, is) in ap (λ (n : ℕ). n ∷ []) same
range_more first (suc count) next is = ap (λ (rest : List ℕ). first ∷ rest) (range_more (first + 1) count next (omega (arith, is)))

module _ (lists : ListEntries) (patterns : List (List ℕ → Option ℕ)) (plan : ScanPlan) (page : ℕ) (image : List ℕ) where
  abbrev own : ℕ → List Feature
  own = page_list patterns plan image page

  -- those of so many pages
  abbrev pub items_of_pages : ℕ → List Classed
  items_of_pages count = map (classed_under lists) (flat_map own (range_with_len 0 count))

  -- those of one page more
  pub items_of-more : (count : ℕ) → items_of_pages count ++ map (classed_under lists) (own count) ≡ items_of_pages (count + 1)
  items_of-more count =
      let pages = range_with_len 0 count in
      let more : suc count ≡ count + 1 = omega arith in
      sym (map-append (classed_under lists) (flat_map own pages) (own count))
      ∙ ap (λ (more : List Feature). map (classed_under lists) (flat_map own pages ++ more)) (sym (append-nil (own count)))
      ∙ ap (map (classed_under lists)) (sym (flat_map-append own pages (count ∷ [])))
      ∙ ap (λ (pages : List ℕ). map (classed_under lists) (flat_map own pages)) (sym (range_more 0 count count (omega arith)))
      ∙ ap items_of_pages more

  -- those of all pages are those of the image
  pub items_of-all : (count : ℕ) → length image ≤ count * page → items_of_pages count ≡ items_under lists patterns plan image
  items_of-all count holds = ap (map (classed_under lists)) (pages_join patterns plan image page count holds)

-- ---- where the image is told

module _ (lists : ListEntries) (patterns : List (List ℕ → Option ℕ)) (plan : ScanPlan) (page : ℕ) where
  abbrev pub AreOfPages : Option (List ℕ) → List Classed → ℕ → Type 0
  AreOfPages told items count = IfSome told (λ image. items ≡ items_of_pages lists patterns plan page image count)

  -- no page has no features
  pub of_no_page : (told : Option (List ℕ)) (items : List Classed) → items ≡ [] → AreOfPages told items 0
  of_no_page None items none = tt
  of_no_page (Some image) items none = none

  -- the features of a page behind those of the pages ahead of it
  pub of_page_more : (told : Option (List ℕ)) (front items : List Classed) (features : List Feature) (count : ℕ) → AreOfPages told front count →
      IfSome told (λ image. features ≡ page_list patterns plan image page count) → items ≡ front ++ map (classed_under lists) features →
      AreOfPages told items (count + 1)
  of_page_more None front items features count ahead here is = tt
  of_page_more (Some image) front items features count ahead here is =
      is ∙ ap (λ (features : List Feature). front ++ map (classed_under lists) features) here
      ∙ ap (λ (front : List Classed). front ++ map (classed_under lists) (page_list patterns plan image page count)) ahead
      ∙ items_of-more lists patterns plan page image count

  -- those of all pages are those of the image
  pub of_all_pages : (told : Option (List ℕ)) (items : List Classed) (size count : ℕ) → 0 < page → AreOfPages told items count →
      IfSome told (λ image. size ≡ length image) → count ≡ div_ceil size page → IfSome told (λ image. items ≡ items_under lists patterns plan image)
  of_all_pages None items size count some are long is = tt
  of_all_pages (Some image) items size count some are long is =
      let reach : size ≤ count * page = rw is (div_ceil_times size page some).0 in
      are ∙ items_of-all lists patterns plan page image count (rw (← long) reach)
