-- The features of the pieces of a page, as far as the image's bytes are told.
use Rattle.std.proofs.Common.{◌≡◌, ◌∙◌, ℕ, ◌+◌, ◌-◌, ◌*◌, ◌<◌, ◌≤◌, List, [], ◌∷◌, ◌++◌, length, take, drop, min, Option, Some, None, IfSome, refl, sym, ap, arith}
use Rattle.forensic_path.specs.declared.feature.Feature.{Feature}
use Rattle.sbuf_nest.specs.declared.look.TheConstants.{LOOK_BEFORE, LOOK_AFTER}
use Rattle.scan_set.specs.Here.{owned}
use Rattle.scan_set.specs.declared.plan.ScanPlan.{ScanPlan}
use Rattle.scan_set.proofs.Images.{owned-none, owned-join}
use Rattle.page_split.specs.Features.{page_list}
use Rattle.page_split.proofs.PageLists.{page_owned}
use Rattle.page_split.proofs.Windows.{owned_is}

module _ (patterns : List (List ℕ → Option ℕ)) (plan : ScanPlan) where
  -- what is found in the bytes that are loaded for a piece is what the image has there
  pub piece_made : (told : Option (List ℕ)) (size from end next to : ℕ) (window : List ℕ) (old found all : List Feature) →
      found ≡ owned patterns plan plan.depth [] window from (next - from) (to - from - (next - from)) → all ≡ old ++ found →
      from ≤ next - LOOK_BEFORE → next ≤ to → to ≤ end → min (to + LOOK_AFTER) size ≤ end →
      IfSome told (λ image. size ≡ length image) → IfSome told (λ image. window ≡ take (end - from) (drop from image)) →
      IfSome told (λ image. all ≡ old ++ owned patterns plan plan.depth [] image 0 next (to - next))
  piece_made None size from end next to window old found all made joined ahead ordered fits behind long is = tt
  piece_made (Some image) size from end next to window old found all made joined ahead ordered fits behind long is =
      let e : from + (next - from) ≡ next = omega (arith, ahead) in
      let f : to - from - (next - from) ≡ to - next = omega (arith, ahead, ordered) in
      let part = take (end - from) (drop from image) in
      joined ∙ ap (λ (more : List Feature). old ++ more) (made
      ∙ ap (λ (bytes : List ℕ). owned patterns plan plan.depth [] bytes from (next - from) (to - from - (next - from))) is
      ∙ ap (owned patterns plan plan.depth [] part from (next - from)) f
      ∙ owned_is patterns plan plan.depth image from end (next - from) (to - next) (omega (arith, ahead, ordered, fits)) (omega (arith, ahead)) (omega (arith, ahead, ordered, behind, long))
      ∙ ap (λ (place : ℕ). owned patterns plan plan.depth [] image 0 place (to - next)) e)

  -- nothing is found in no places
  pub none_made : (told : Option (List ℕ)) (items : List Feature) (first next : ℕ) → items ≡ [] → next ≡ first →
      IfSome told (λ image. items ≡ owned patterns plan plan.depth [] image 0 first (next - first))
  none_made None items first next empty same = tt
  none_made (Some image) items first next empty same =
      let e : next - first ≡ 0 = omega (arith, same) in
      rw e (empty ∙ sym (owned-none patterns plan plan.depth [] image 0 first))

  -- a piece behind those so far
  pub more_made : (told : Option (List ℕ)) (items more : List Feature) (first next to : ℕ) → first ≤ next → next ≤ to →
      IfSome told (λ image. items ≡ owned patterns plan plan.depth [] image 0 first (next - first)) →
      IfSome told (λ image. more ≡ items ++ owned patterns plan plan.depth [] image 0 next (to - next)) →
      IfSome told (λ image. more ≡ owned patterns plan plan.depth [] image 0 first (to - first))
  more_made None items more first next to low high so_far is = tt
  more_made (Some image) items more first next to low high so_far is =
      is ∙ ap (λ (front : List Feature). front ++ owned patterns plan plan.depth [] image 0 next (to - next)) so_far
      ∙ owned-join patterns plan plan.depth [] image 0 first next to low high

  -- all pieces of a page
  pub all_made : (told : Option (List ℕ)) (items : List Feature) (size page number next : ℕ) → number * page < size → next ≡ min (number * page + page) size →
      IfSome told (λ image. size ≡ length image) →
      IfSome told (λ image. items ≡ owned patterns plan plan.depth [] image 0 (number * page) (next - number * page)) →
      IfSome told (λ image. items ≡ page_list patterns plan image page number)
  all_made None items size page number next begins end long made = tt
  all_made (Some image) items size page number next begins end long made =
      let e : number * page ≡ min (number * page) (length image) = omega (arith, begins, long) in
      let f : next - number * page ≡ min (number * page + page) (length image) - min (number * page) (length image) = omega (arith, begins, end, long) in
      made ∙ ap (owned patterns plan plan.depth [] image 0 (number * page)) f
      ∙ ap (λ (place : ℕ). owned patterns plan plan.depth [] image 0 place (min (number * page + page) (length image) - min (number * page) (length image))) e
      ∙ sym (page_owned patterns plan image page number)
