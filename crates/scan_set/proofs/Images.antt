-- The features of runs of places join, and those of a whole buffer are those of all of its places.
use Rattle.std.proofs.Common.{◌≡◌, ◌∙◌, ℕ, zero, suc, ◌+◌, ◌-◌, ◌<◌, ◌≤◌, List, [], ◌∷◌, ◌++◌, length, take, get_or, sym, ap, refl, arith, append_assoc}
use Rattle.std.specs.Prelude.{Option}
use Rattle.std.specs.List.{range_with_len, flat_map}
use Rattle.std.proofs.lemmas.List.{append-nil, length-append, take_more}
use Rattle.std.proofs.lemmas.List.Concat.{flat_map-append}
use Rattle.forensic_path.specs.declared.feature.Feature.{Feature}
use Rattle.forensic_path.specs.declared.path.Decoder.{Decoder}
use Rattle.sbuf_nest.specs.Around.{look_at}
use Rattle.sbuf_nest.specs.Turns.{turned}
use Rattle.sbuf_nest.specs.declared.trail.Turn.{Turn}
use Rattle.scan_set.specs.Here.{at_places, here, owned, features_of}
use Rattle.scan_set.specs.declared.event.Event.{Event}
use Rattle.scan_set.specs.declared.plan.ScanPlan.{ScanPlan}

module _ (patterns : List (List ℕ → Option ℕ)) (plan : ScanPlan) (left : ℕ) (turns : List Turn) (bytes : List ℕ) (base : ℕ) where
  -- the features of two runs, one behind the other
  pub owned-split : (first a b : ℕ) → owned patterns plan left turns bytes base first (a + b) ≡ owned patterns plan left turns bytes base first a ++ owned patterns plan left turns bytes base (first + a) b
  unfolding owned
  owned-split first zero b =
      let e : 0 + b ≡ b = omega arith in
      let f : first + 0 ≡ first = omega arith in
      rw (e, f) refl
  owned-split first (suc a) b =
      let e : suc a + b ≡ suc (a + b) = omega arith in
      let f : first + suc a ≡ first + 1 + a = omega arith in
      rw (e, f)
      (ap (λ rest. here patterns plan left turns (look_at bytes first) (base + first) ++ rest) (owned-split (first + 1) a b)
      ∙ sym (append_assoc (here patterns plan left turns (look_at bytes first) (base + first)) _ _))

  pub owned-none : (first : ℕ) → owned patterns plan left turns bytes base first 0 ≡ []
  unfolding owned
  owned-none first = refl

  -- two runs by the places where they meet and end
  pub owned-join : (first middle end : ℕ) → first ≤ middle → middle ≤ end →
      owned patterns plan left turns bytes base first (middle - first) ++ owned patterns plan left turns bytes base middle (end - middle)
      ≡ owned patterns plan left turns bytes base first (end - first)
  owned-join first middle end low high =
      let e : end - first ≡ middle - first + (end - middle) = omega arith in
      let f : first + (middle - first) ≡ middle = omega arith in
      let split = owned-split first (middle - first) (end - middle) in
      rw e (sym (rw f at split))

-- what two functions give alike at each place they give alike at all
alike : (f g : ℕ → List Feature) → ((place : ℕ) → f place ≡ g place) → (places : List ℕ) → flat_map f places ≡ flat_map g places
alike f g same [] = refl
alike f g same (place ∷ places) = rw (same place) (ap (λ rest. g place ++ rest) (alike f g same places))

-- a whole buffer has its byte 0 at place 0, and owns all of its places
pub places_owned : (patterns : List (List ℕ → Option ℕ)) (plan : ScanPlan) (left : ℕ) (turns : List Turn) (bytes : List ℕ) →
    at_places (here patterns plan left turns) bytes ≡ owned patterns plan left turns bytes 0 0 (length bytes)
unfolding owned
places_owned patterns plan left turns bytes =
    alike _ _ (λ place. let e : 0 + place ≡ place = omega arith in rw e refl) (range_with_len 0 (length bytes))

-- an image is such a buffer
pub features_owned : (patterns : List (List ℕ → Option ℕ)) (plan : ScanPlan) (image : List ℕ) →
    features_of patterns plan image ≡ owned patterns plan plan.depth [] image 0 0 (length image)
features_owned patterns plan image = places_owned patterns plan plan.depth [] image

-- the features of one event more
pub one_event_more : (f : Event → List Feature) (events : List Event) (i : ℕ) (d : Event) (old made new : List Feature) → i < length events →
    made ≡ old ++ flat_map f (take i events) → new ≡ made ++ f (get_or events i d) → new ≡ old ++ flat_map f (take (i + 1) events)
one_event_more f events i d old made new lt so_far is =
    let last = f (get_or events i d) in
    let all : flat_map f (take (i + 1) events) ≡ flat_map f (take i events) ++ last =
    ap (flat_map f) (take_more events i d lt) ∙ flat_map-append f (take i events) (get_or events i d ∷ [])
    ∙ ap (λ (end : List Feature). flat_map f (take i events) ++ end) (append-nil last) in
    is ∙ ap (λ (front : List Feature). front ++ last) so_far ∙ append_assoc old (flat_map f (take i events)) last
    ∙ ap (λ (more : List Feature). old ++ more) (sym all)

-- a turn more
pub length-turned : (turns : List Turn) (place : ℕ) (by : Decoder) → length (turned turns place by) ≡ length turns + 1
length-turned turns place by = length-append turns (record { from = place; by = by } ∷ [])
