-- A place's features depend on its Look alone, but for the place that begins their paths.
use Rattle.std.proofs.Common.{◌≡◌, ◌∙◌, ℕ, zero, suc, ◌+◌, ◌-◌, Bool, true, false, List, [], ◌∷◌, ◌++◌, map, take, refl, sym, ap, arith, Option}
use Rattle.std.specs.Prelude.{length}
use Rattle.std.specs.List.{range_with_len, flat_map}
use Rattle.std.proofs.lemmas.List.{map-append}
use Rattle.std.proofs.lemmas.Simd.{map-map}
use Rattle.forensic_path.specs.declared.feature.Feature.{Feature}
use Rattle.forensic_path.specs.declared.path.Decoder.{Decoder}
use Rattle.forensic_path.specs.declared.path.Decoder.TheVariants.{Xor}
use Rattle.sbuf_nest.specs.Around.{Around, look_at}
use Rattle.sbuf_nest.specs.Turns.{turned, path_at}
use Rattle.sbuf_nest.specs.declared.trail.Turn.{Turn}
use Rattle.decode_views.specs.Xor.{xored}
use Rattle.scan_set.specs.Decoders.{Decoded, decoded}
use Rattle.scan_set.specs.Here.{feature_of, takes_view, at_places, here}
use Rattle.scan_set.specs.Laws.{moved, SameLooksSameFeatures}
use Rattle.scan_set.specs.Shapes.{Shape, shapes, when}
use Rattle.scan_set.specs.declared.plan.ScanPlan.{ScanPlan}

-- what each of two functions gives, the one moved, is the same for all items where it is for each
moved_all : {A : Type 0} (top : ℕ) (f g : A → List Feature) (xs : List A) → ((x : A) → map (moved top) (f x) ≡ g x) →
    map (moved top) (flat_map f xs) ≡ flat_map g xs
moved_all {A} top f g [] same = refl
moved_all {A} top f g (x ∷ xs) same =
    map-append (moved top) (f x) (flat_map f xs)
    ∙ ap (λ (front : List Feature). front ++ map (moved top) (flat_map f xs)) (same x)
    ∙ ap (λ (rest : List Feature). g x ++ rest) (moved_all top f g xs same)

moved_when : (top : ℕ) (test : Bool) (xs ys : List Feature) → map (moved top) xs ≡ ys → map (moved top) (when test xs) ≡ when test ys
moved_when top true xs ys same = same
moved_when top false xs ys same = refl

moved_parts : (top : ℕ) (a b c : List Feature) (a' b' c' : List Feature) → map (moved top) a ≡ a' → map (moved top) b ≡ b' → map (moved top) c ≡ c' →
    map (moved top) (a ++ b ++ c) ≡ a' ++ b' ++ c'
moved_parts top a b c a' b' c' own nested viewed =
    map-append (moved top) (a ++ b) c
    ∙ ap (λ (front : List Feature). front ++ map (moved top) c) (map-append (moved top) a b)
    ∙ ap (λ (front : List Feature). front ++ map (moved top) b ++ map (moved top) c) own
    ∙ ap (λ (middle : List Feature). a' ++ middle ++ map (moved top) c) nested
    ∙ ap (λ (rest : List Feature). a' ++ b' ++ rest) viewed

module _ (patterns : List (List ℕ → Option ℕ)) (plan : ScanPlan) (from top : ℕ) where
  -- below a first turn, another place of this turn is another first place of each path
  turn_moved : (left : ℕ) (by : Decoder) (turns : List Turn) (look : Around) (place : ℕ) →
      map (moved top) (here patterns plan left (record { from = from; by = by } ∷ turns) look place)
      ≡ here patterns plan left (record { from = top; by = by } ∷ turns) look place
  unfolding here
  turn_moved zero by turns look place =
      map-map (moved top) (feature_of plan look (path_at (record { from = from; by = by } ∷ turns) place)) (shapes patterns plan look)
  turn_moved (suc left) by turns look place =
      moved_parts top _ _ _ _ _ _
      (map-map (moved top) (feature_of plan look (path_at (record { from = from; by = by } ∷ turns) place)) (shapes patterns plan look))
      (moved_all top _ _ (decoded plan look) (λ (d : Decoded).
      moved_all top _ _ (range_with_len 0 (length d.value)) (λ (inner : ℕ). turn_moved left by (turned turns place d.by) (look_at d.value inner) inner)))
      (moved_when top (takes_view plan (record { from = top; by = by } ∷ turns)) _ _ (turn_moved left by (turned turns place (Xor plan.mask)) (xored plan.mask look) 0))

  -- and so it is for the features of a place of the image itself
  place_moved : (left : ℕ) (look : Around) → map (moved top) (here patterns plan left [] look from) ≡ here patterns plan left [] look top
  unfolding here
  place_moved zero look = map-map (moved top) (feature_of plan look (path_at [] from)) (shapes patterns plan look)
  place_moved (suc left) look =
      moved_parts top _ _ _ _ _ _
      (map-map (moved top) (feature_of plan look (path_at [] from)) (shapes patterns plan look))
      (moved_all top _ _ (decoded plan look) (λ (d : Decoded).
      moved_all top _ _ (range_with_len 0 (length d.value)) (λ (inner : ℕ). turn_moved left d.by [] (look_at d.value inner) inner)))
      (moved_when top (takes_view plan []) _ _ (turn_moved left (Xor plan.mask) [] (xored plan.mask look) 0))

pub same_looks : SameLooksSameFeatures
same_looks patterns plan left a b i j same =
    place_moved patterns plan i j left (look_at a i) ∙ ap (λ (look : Around). here patterns plan left [] look j) same
