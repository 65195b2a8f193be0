-- The features at one place, in a buffer and in an image, those in decoded bytes included.
use Rattle.std.specs.Prelude.{ℕ, zero, suc, ◌+◌, ◌-◌, Bool, List, [], ◌++◌, map, length, take, drop, not, ◌&&◌, nat_lt, Option, flat_map}
use Rattle.std.specs.List.{range_with_len}
use Rattle.forensic_path.specs.declared.path.Decoder.TheVariants.{Xor}
use Rattle.forensic_path.specs.declared.path.Path.{Path}
use Rattle.forensic_path.specs.declared.feature.Feature.{Feature}
use Rattle.sbuf_nest.specs.Around.{Around, look_at}
use Rattle.sbuf_nest.specs.Turns.{turned, path_at, has_xor}
use Rattle.sbuf_nest.specs.declared.trail.Turn.{Turn}
use Rattle.decode_views.specs.Xor.{xored}
use Rattle.scan_set.specs.Shapes.{Shape, shapes, when}
use Rattle.scan_set.specs.Decoders.{Decoded, decoded}
use Rattle.scan_set.specs.declared.plan.ScanPlan.{ScanPlan}

-- the last at most `reach` bytes ahead of the place, the extent, and the at most `reach` bytes behind it
abbrev pub context_of : ℕ → Around → ℕ → List ℕ
context_of reach look extent = drop (length look.before - reach) look.before ++ take (extent + reach) look.after

-- the feature of a shape, at its path
abbrev pub feature_of : ScanPlan → Around → Path → Shape → Feature
feature_of plan look path shape =
    record { kind = shape.kind; path = path; feature = shape.text; context = context_of plan.context look shape.extent }

-- a mask is set, and no XOR view was taken on the way
abbrev pub takes_view : ScanPlan → List Turn → Bool
takes_view plan turns = nat_lt 0 plan.mask && not (has_xor turns)

-- the lists of the places of a buffer, from its first place on
abbrev pub at_places : (Around → ℕ → List Feature) → List ℕ → List Feature
at_places features bytes = flat_map (λ place. features (look_at bytes place) place) (range_with_len 0 (length bytes))

module _ (patterns : List (List ℕ → Option ℕ)) (plan : ScanPlan) where
  -- The features at one place of the buffer that the turns lead to, where the limit of depth leaves so
  -- many levels: first those of the place's shapes. Where a level is left, those of each value that is
  -- decoded there follow, as a buffer of its own; and last, where a view is taken, those of the place
  -- with each byte XORed with the mask.
  unfoldable pub here : ℕ → List Turn → Around → ℕ → List Feature
  here zero turns look place = map (feature_of plan look (path_at turns place)) (shapes patterns plan look)
  here (suc left) turns look place =
      map (feature_of plan look (path_at turns place)) (shapes patterns plan look)
      ++ flat_map (λ (d : Decoded). at_places (here left (turned turns place d.by)) d.value) (decoded plan look)
      ++ when (takes_view plan turns) (here left (turned turns place (Xor plan.mask)) (xored plan.mask look) 0)

  -- the features of a buffer
  abbrev pub all_of : ℕ → List Turn → List ℕ → List Feature
  all_of left turns bytes = at_places (here left turns) bytes

  -- the features of an image
  abbrev pub features_of : List ℕ → List Feature
  features_of image = all_of plan.depth [] image

  -- The features of so many places of a buffer from the first on, where byte 0 of the buffer stands at
  -- the base: a buffer may be a part of an image, whose places are counted from the image's front.
  unfoldable pub owned : ℕ → List Turn → List ℕ → ℕ → ℕ → ℕ → List Feature
  owned left turns bytes base first count =
      flat_map (λ place. here left turns (look_at bytes place) (base + place)) (range_with_len first count)
