-- The features of all pages, one page behind the other, are those of the image.
use Rattle.std.proofs.Common.{◌≡◌, ◌∙◌, ℕ, zero, suc, ◌+◌, ◌-◌, ◌*◌, ◌<◌, ◌≤◌, List, [], ◌∷◌, ◌++◌, length, min, refl, sym, ap, arith}
use Rattle.std.specs.Prelude.{Option}
use Rattle.std.specs.List.{range_with_len, flat_map}
use Rattle.forensic_path.specs.declared.feature.Feature.{Feature}
use Rattle.scan_set.specs.Here.{owned, features_of}
use Rattle.scan_set.specs.declared.plan.ScanPlan.{ScanPlan}
use Rattle.scan_set.proofs.Images.{owned-none, owned-join, features_owned}
use Rattle.page_split.specs.Features.{page_list, PagesJoin}
use Rattle.page_split.proofs.Counts.{next_page}
use Rattle.page_split.proofs.PageLists.{page_owned}

-- so many pages from one on have the features from its first place on
rest_join : (patterns : List (List ℕ → Option ℕ)) (plan : ScanPlan) (image : List ℕ) (page count number : ℕ) → length image ≤ (number + count) * page →
    flat_map (page_list patterns plan image page) (range_with_len number count)
    ≡ owned patterns plan plan.depth [] image 0 (min (number * page) (length image)) (length image - number * page)
rest_join patterns plan image page zero number holds =
    let e : number + 0 ≡ number = omega arith in
    let fits : length image ≤ number * page = rw e at holds in
    let none : length image - number * page ≡ 0 = omega (arith, fits) in
    rw none (sym (owned-none patterns plan plan.depth [] image 0 _))
rest_join patterns plan image page (suc count) number holds =
    let e : number + suc count ≡ number + 1 + count = omega arith in
    let more = rest_join patterns plan image page count (number + 1) (rw e at holds) in
    let size = length image in
    let first = min (number * page) size in
    let middle = min (number * page + page) size in
    let next = next_page number page in
    let begins : min ((number + 1) * page) size ≡ middle = omega (arith, next) in
    let left : size - (number + 1) * page ≡ size - middle = omega (arith, next) in
    let whole : size - first ≡ size - number * page = omega arith in
    ap (λ (rest : List Feature). page_list patterns plan image page number ++ rest)
    (more ∙ ap (λ (place : ℕ). owned patterns plan plan.depth [] image 0 place (size - (number + 1) * page)) begins
    ∙ ap (owned patterns plan plan.depth [] image 0 middle) left)
    ∙ ap (λ (own : List Feature). own ++ owned patterns plan plan.depth [] image 0 middle (size - middle)) (page_owned patterns plan image page number)
    ∙ owned-join patterns plan plan.depth [] image 0 first middle size (omega arith) (omega arith)
    ∙ ap (owned patterns plan plan.depth [] image 0 first) whole

pub pages_join : PagesJoin
pages_join patterns plan image page count holds =
    let e : 0 + count ≡ count = omega arith in
    let f : min (0 * page) (length image) ≡ 0 = omega arith in
    let g : length image - 0 * page ≡ length image = omega arith in
    let all = rest_join patterns plan image page count 0 (rw e holds) in
    all ∙ ap (λ (first : ℕ). owned patterns plan plan.depth [] image 0 first (length image - 0 * page)) f
    ∙ ap (λ (size : ℕ). owned patterns plan plan.depth [] image 0 0 size) g
    ∙ sym (features_owned patterns plan image)
