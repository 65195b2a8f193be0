-- What a scan without lists says of its features.
use Rattle.std.specs.Prelude.{◌≡◌, List, [], map, refl}
use Rattle.forensic_path.specs.declared.feature.Class.TheVariants.{Plain}
use Rattle.forensic_path.specs.declared.feature.Feature.{Feature}
use Rattle.stop_lists.specs.Lists.{entries_of, class_under, classed_by}

-- every feature is plain
pub all_plain : (features : List Feature) → classed_by [] [] features ≡ map (λ f. record { class = Plain; item = f }) features
unfolding entries_of class_under
all_plain features = refl
