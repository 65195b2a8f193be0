-- The features of a page are those of its places.
use Rattle.std.proofs.Common.{◌≡◌, ◌∙◌, ℕ, zero, suc, ◌+◌, ◌-◌, ◌*◌, ◌<◌, ◌≤◌, Bool, true, false, ◌&&◌, List, [], ◌∷◌, ◌++◌, map, length, min, refl, sym, subst, ap, arith, ◌⊎◌, inl, inr}
use Rattle.std.specs.Prelude.{Option, filter, nat_le, nat_lt}
use Rattle.std.specs.List.{range_with_len, flat_map}
use Rattle.std.proofs.lemmas.Bool.{cases_lt}
use Rattle.std.proofs.lemmas.Bool.Decides.{nat_tests}
use Rattle.std.proofs.lemmas.List.{append-nil}
use Rattle.std.proofs.lemmas.List.Elements.{filter-append}
use Rattle.forensic_path.specs.declared.feature.Feature.{Feature}
use Rattle.sbuf_nest.specs.Around.{look_at}
use Rattle.scan_set.specs.Here.{here, owned, features_of}
use Rattle.scan_set.specs.Laws.{moved}
use Rattle.scan_set.specs.declared.plan.ScanPlan.{ScanPlan}
use Rattle.scan_set.proofs.Images.{owned-none, owned-join, features_owned}
use Rattle.scan_set.proofs.SameLooks.{same_looks}
use Rattle.page_split.specs.Features.{is_in_page, page_list}

-- the place is one of the page's
abbrev holds : ℕ → ℕ → ℕ → Bool
holds page number place = nat_le (number * page) place && nat_lt place (number * page + page)

holds_inside : (page number place : ℕ) → number * page ≤ place → place < number * page + page → holds page number place ≡ true
holds_inside page number place low high = grind (arith, nat_tests)

holds_ahead : (page number place : ℕ) → place < number * page → holds page number place ≡ false
holds_ahead page number place low = grind (arith, nat_tests)

holds_behind : (page number place : ℕ) → number * page + page ≤ place → holds page number place ≡ false
holds_behind page number place high = grind (arith, nat_tests)

-- features at one place of the image are all of the page, or none
all_pass : (page number place : ℕ) (features : List Feature) → holds page number place ≡ true →
    filter (is_in_page page number) (map (moved place) features) ≡ map (moved place) features
all_pass page number place [] inside = refl
all_pass page number place (feature ∷ features) inside =
    rw inside (ap (λ (rest : List Feature). moved place feature ∷ rest) (all_pass page number place features inside))

none_pass : (page number place : ℕ) (features : List Feature) → holds page number place ≡ false →
    filter (is_in_page page number) (map (moved place) features) ≡ []
none_pass page number place [] outside = refl
none_pass page number place (feature ∷ features) outside = rw outside (none_pass page number place features outside)

module _ (patterns : List (List ℕ → Option ℕ)) (plan : ScanPlan) (image : List ℕ) where
  -- each feature of a place begins there
  placed : (place : ℕ) → map (moved place) (here patterns plan plan.depth [] (look_at image place) (0 + place))
      ≡ here patterns plan plan.depth [] (look_at image place) (0 + place)
  placed place =
      let e : 0 + place ≡ place = omega arith in
      rw e (same_looks patterns plan plan.depth image image place place refl)

  -- a run of places of the page
  run_inside : (page number first count : ℕ) → number * page ≤ first → first + count ≤ number * page + page →
      filter (is_in_page page number) (owned patterns plan plan.depth [] image 0 first count) ≡ owned patterns plan plan.depth [] image 0 first count
  unfolding owned
  run_inside page number first zero low high = refl
  run_inside page number first (suc count) low high =
      let here_list = here patterns plan plan.depth [] (look_at image first) (0 + first) in
      let one : filter (is_in_page page number) here_list ≡ here_list =
      subst (λ (xs : List Feature). filter (is_in_page page number) xs ≡ xs) (placed first)
      (all_pass page number first here_list (holds_inside page number first low (omega (arith, high)))) in
      filter-append (is_in_page page number) here_list (owned patterns plan plan.depth [] image 0 (first + 1) count)
      ∙ ap (λ (front : List Feature). front ++ filter (is_in_page page number) (owned patterns plan plan.depth [] image 0 (first + 1) count)) one
      ∙ ap (λ (rest : List Feature). here_list ++ rest) (run_inside page number (first + 1) count (omega (arith, low)) (omega (arith, high)))

  -- a run of places of other pages
  run_outside : (page number first count : ℕ) → ((place : ℕ) → first ≤ place → place < first + count → holds page number place ≡ false) →
      filter (is_in_page page number) (owned patterns plan plan.depth [] image 0 first count) ≡ []
  unfolding owned
  run_outside page number first zero other = refl
  run_outside page number first (suc count) other =
      let here_list = here patterns plan plan.depth [] (look_at image first) (0 + first) in
      let one : filter (is_in_page page number) here_list ≡ [] =
      subst (λ (xs : List Feature). filter (is_in_page page number) xs ≡ []) (placed first)
      (none_pass page number first here_list (other first (omega arith) (omega arith))) in
      filter-append (is_in_page page number) here_list (owned patterns plan plan.depth [] image 0 (first + 1) count)
      ∙ ap (λ (front : List Feature). front ++ filter (is_in_page page number) (owned patterns plan plan.depth [] image 0 (first + 1) count)) one
      ∙ run_outside page number (first + 1) count (λ place low high. other place (omega (arith, low)) (omega (arith, high)))

  -- the page's own run, which begins where the page does, or is empty
  own_run : (page number : ℕ) (either : (number * page < length image) ⊎ (length image ≤ number * page)) →
      filter (is_in_page page number) (owned patterns plan plan.depth [] image 0 (min (number * page) (length image)) (min (number * page + page) (length image) - min (number * page) (length image)))
      ≡ owned patterns plan plan.depth [] image 0 (min (number * page) (length image)) (min (number * page + page) (length image) - min (number * page) (length image))
  own_run page number (inl inside) = run_inside page number _ _ (omega (arith, inside)) (omega (arith, inside))
  own_run page number (inr outside) =
      let none : min (number * page + page) (length image) - min (number * page) (length image) ≡ 0 = omega (arith, outside) in
      rw (none, owned-none patterns plan plan.depth [] image 0 (min (number * page) (length image))) refl

  -- the features of the page are those of its places
  pub page_owned : (page number : ℕ) → page_list patterns plan image page number
      ≡ owned patterns plan plan.depth [] image 0 (min (number * page) (length image)) (min (number * page + page) (length image) - min (number * page) (length image))
  unfolding page_list
  page_owned page number =
      let size = length image in
      let front = min (number * page) size in
      let end = min (number * page + page) size in
      let test = is_in_page page number in
      let low : front ≤ end = omega arith in
      let high : end ≤ size = omega arith in
      let e : front - 0 ≡ front = omega arith in
      let f : size - 0 ≡ size = omega arith in
      let first = owned patterns plan plan.depth [] image 0 0 (front - 0) in
      let own = owned patterns plan plan.depth [] image 0 front (end - front) in
      let back = owned patterns plan plan.depth [] image 0 end (size - end) in
      let split : features_of patterns plan image ≡ first ++ own ++ back =
      features_owned patterns plan image ∙ ap (owned patterns plan plan.depth [] image 0 0) (sym f)
      ∙ sym (owned-join patterns plan plan.depth [] image 0 0 end size (omega arith) high)
      ∙ ap (λ (both : List Feature). both ++ back) (sym (owned-join patterns plan plan.depth [] image 0 0 front end (omega arith) low)) in
      let ahead : filter test first ≡ [] = run_outside page number 0 (front - 0) (λ place before until. holds_ahead page number place (omega (arith, until))) in
      let behind : filter test back ≡ [] = run_outside page number end (size - end) (λ place before until. holds_behind page number place (omega (arith, before, until))) in
      let middle : filter test own ≡ own = own_run page number (cases_lt (number * page) size) in
      ap (filter test) split
      ∙ filter-append test (first ++ own) back
      ∙ ap (λ (both : List Feature). both ++ filter test back) (filter-append test first own)
      ∙ ap (λ (front_list : List Feature). front_list ++ filter test own ++ filter test back) ahead
      ∙ ap (λ (own_list : List Feature). own_list ++ filter test back) middle
      ∙ ap (λ (back_list : List Feature). own ++ back_list) behind
      ∙ append-nil own
