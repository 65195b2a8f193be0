-- Laws of the definitions, whatever the bytes.
use Rattle.std.specs.Prelude.{◌≡◌, ℕ, List, [], map, Option}
use Rattle.forensic_path.specs.declared.feature.Feature.{Feature}
use Rattle.sbuf_nest.specs.Around.{look_at}
use Rattle.scan_set.specs.Here.{here}
use Rattle.scan_set.specs.declared.plan.ScanPlan.{ScanPlan}

-- the feature, with another first place of its path
abbrev pub moved : ℕ → Feature → Feature
moved top feature = record feature { path = record feature.path { top = top } }

-- two places whose Looks are equal have the same features, but for the place that begins their paths
abbrev pub SameLooksSameFeatures : Type 0
SameLooksSameFeatures =
    (patterns : List (List ℕ → Option ℕ)) (plan : ScanPlan) (left : ℕ) (a b : List ℕ) (i j : ℕ) → look_at a i ≡ look_at b j →
    map (moved j) (here patterns plan left [] (look_at a i) i) ≡ here patterns plan left [] (look_at b j) j
