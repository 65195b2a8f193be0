-- The features of a page, and of all pages.
use Rattle.std.specs.Prelude.{◌≡◌, ℕ, ◌+◌, ◌*◌, ◌≤◌, Bool, ◌&&◌, nat_le, nat_lt, List, length, Option, filter, flat_map}
use Rattle.std.specs.List.{range_with_len}
use Rattle.forensic_path.specs.declared.feature.Feature.{Feature}
use Rattle.scan_set.specs.Here.{features_of}
use Rattle.scan_set.specs.declared.plan.ScanPlan.{ScanPlan}

-- its place in the image is one of the page's
abbrev pub is_in_page : ℕ → ℕ → Feature → Bool
is_in_page page number feature = nat_le (number * page) feature.path.top && nat_lt feature.path.top (number * page + page)

-- the features of the image that begin in the page
unfoldable pub page_list : List (List ℕ → Option ℕ) → ScanPlan → List ℕ → ℕ → ℕ → List Feature
page_list patterns plan image page number = filter (is_in_page page number) (features_of patterns plan image)

-- those of all pages of an image, one page behind the other, are those of the image
abbrev pub PagesJoin : Type 0
PagesJoin =
    (patterns : List (List ℕ → Option ℕ)) (plan : ScanPlan) (image : List ℕ) (page count : ℕ) → length image ≤ count * page →
    flat_map (page_list patterns plan image page) (range_with_len 0 count) ≡ features_of patterns plan image
