-- The features of a run of places are those that the events of the level give.
use Rattle.std.proofs.Common.{◌≡◌, ◌∙◌, ℕ, zero, suc, ◌+◌, ◌-◌, ◌<◌, ◌≤◌, Bool, true, false, not, ◌&&◌, List, [], ◌∷◌, ◌++◌, map, length, get_or, sym, ap, refl, subst, append_assoc, Option, Some, None, arith}
use Rattle.std.specs.List.{range_with_len, flat_map, All}
use Rattle.std.proofs.lemmas.List.{map-append, append-nil}
use Rattle.std.specs.Prelude.{nat_lt}
use Rattle.std.proofs.lemmas.List.Concat.{flat_map-append}
use Rattle.std.proofs.lemmas.List.Folds.{flat_map-map}
use Rattle.std.proofs.lemmas.List.Elements.{All-nil, All-cons, All-append, All-map, All-get_or}
use Rattle.forensic_path.specs.declared.feature.Feature.{Feature}
use Rattle.forensic_path.specs.declared.path.Decoder.TheVariants.{Xor}
use Rattle.sbuf_nest.specs.Around.{Around, look_at}
use Rattle.sbuf_nest.specs.Marks.{marks_of}
use Rattle.sbuf_nest.specs.Turns.{turned, path_at, has_xor}
use Rattle.sbuf_nest.specs.declared.mark.Mark.{Mark}
use Rattle.sbuf_nest.specs.declared.mark.Start.{Start}
use Rattle.sbuf_nest.specs.declared.trail.Turn.{Turn}
use Rattle.decode_views.specs.Xor.{xored}
use Rattle.scan_set.specs.Decoders.{starts_at}
use Rattle.scan_set.specs.Events.{event_place, own_event, text_event, viewed_event, nests, has_view, plain_events, view_events, level_events, sign_features, event_features}
use Rattle.scan_set.specs.Here.{takes_view, here, owned}
use Rattle.scan_set.specs.Marks.{marks_at}
use Rattle.scan_set.specs.Shapes.{when}
use Rattle.scan_set.specs.declared.event.Event.{Event}
use Rattle.scan_set.specs.declared.plan.ScanPlan.{ScanPlan}
use Rattle.scan_set.proofs.Given.{flat_map-alike, flat_map-when, has_xor-turned, plain_gives, no_view, all_but_view}
use Rattle.scan_set.proofs.Merging.{StandAt}
use Rattle.scan_set.proofs.Stands.{plain_stand}

unviewed_texts : (on : Bool) (starts : List Start) → All (λ (event : Event). event.in_view ≡ false) (when on (map text_event starts))
unviewed_texts true starts = All-map (λ (event : Event). event.in_view ≡ false) text_event starts (λ k d lt. refl)
unviewed_texts false starts = All-nil (λ (event : Event). event.in_view ≡ false)

-- the events of a buffer are none of a view
pub unviewed : (on : Bool) (marks : List Mark) (starts : List Start) → All (λ (event : Event). event.in_view ≡ false) (map own_event marks ++ when on (map text_event starts))
unviewed on marks starts =
    All-append (λ (event : Event). event.in_view ≡ false) (map own_event marks) (when on (map text_event starts))
    (All-map (λ (event : Event). event.in_view ≡ false) own_event marks (λ k d lt. refl)) (unviewed_texts on starts)

and_not : (a b : Bool) → (a && (b && not true)) ≡ false
and_not true true = refl
and_not true false = refl
and_not false b = refl

module _ (patterns : List (List ℕ → Option ℕ)) (plan : ScanPlan) where
  module _ (left : ℕ) (turns : List Turn) (bytes : List ℕ) (base at : ℕ) where
    abbrev pub gives : Event → List Feature
    gives event = event_features patterns plan left turns bytes base event

    -- the same event as its place has it
    plain_same : (event : Event) → event_place event ≡ at → event.in_view ≡ false →
        gives event ≡ plain_gives patterns plan left turns (look_at bytes at) (base + at) event
    plain_same event is not_viewed = rw (not_viewed, is) refl

    view_same : (event : Event) → event_place event ≡ at →
        gives (viewed_event event) ≡ plain_gives patterns plan (left - 1) (turned turns (base + at) (Xor plan.mask)) (xored plan.mask (look_at bytes at)) 0 event
    view_same event is = rw is refl

    plain_part : flat_map gives (plain_events patterns plan (nests left) (look_at bytes at) at)
        ≡ flat_map (plain_gives patterns plan left turns (look_at bytes at) (base + at)) (plain_events patterns plan (nests left) (look_at bytes at) at)
    plain_part =
        let look = look_at bytes at in
        let stand = plain_stand patterns plan (nests left) look at in
        let plain = unviewed (nests left) (marks_at patterns plan look at) (starts_at plan look at) in
        flat_map-alike gives (plain_gives patterns plan left turns look (base + at)) (plain_events patterns plan (nests left) look at)
        (λ k d lt. plain_same _ (stand k d lt) (plain k d lt))

    view_part : flat_map gives (view_events patterns plan (nests (left - 1)) (look_at bytes at) at)
        ≡ here patterns plan (left - 1) (turned turns (base + at) (Xor plan.mask)) (xored plan.mask (look_at bytes at)) 0
    view_part =
        let look = xored plan.mask (look_at bytes at) in
        let ways = turned turns (base + at) (Xor plan.mask) in
        let events = plain_events patterns plan (nests (left - 1)) look at in
        let stand = plain_stand patterns plan (nests (left - 1)) look at in
        let xor : has_xor ways ≡ true = has_xor-turned turns (base + at) plan.mask in
        let none : has_view plan (left - 1) ways ≡ false = rw xor (and_not (nests (left - 1)) (nat_lt 0 plan.mask)) in
        flat_map-map gives viewed_event events
        ∙ flat_map-alike (λ event. gives (viewed_event event)) (plain_gives patterns plan (left - 1) ways look 0) events (λ k d lt. view_same (get_or events k d) (stand k d lt))
        ∙ no_view patterns plan (left - 1) ways look at 0 none

    by_view : (on : Bool) → has_view plan left turns ≡ on →
        flat_map gives (level_events patterns plan left on (look_at bytes at) at) ≡ here patterns plan left turns (look_at bytes at) (base + at)
    by_view false is =
        ap (flat_map gives) (append-nil (plain_events patterns plan (nests left) (look_at bytes at) at)) ∙ plain_part
        ∙ no_view patterns plan left turns (look_at bytes at) at (base + at) is
    by_view true is =
        flat_map-append gives (plain_events patterns plan (nests left) (look_at bytes at) at) (view_events patterns plan (nests (left - 1)) (look_at bytes at) at)
        ∙ ap (λ (front : List Feature). front ++ flat_map gives (view_events patterns plan (nests (left - 1)) (look_at bytes at) at)) plain_part
        ∙ ap (λ (back : List Feature). flat_map (plain_gives patterns plan left turns (look_at bytes at) (base + at)) (plain_events patterns plan (nests left) (look_at bytes at) at) ++ back) view_part
        ∙ all_but_view patterns plan left turns (look_at bytes at) at (base + at) is

    -- the events of a place give its features
    pub place_gives : flat_map gives (level_events patterns plan left (has_view plan left turns) (look_at bytes at) at)
        ≡ here patterns plan left turns (look_at bytes at) (base + at)
    place_gives = by_view (has_view plan left turns) refl

  -- the events of a run of places give theirs
  pub run_gives : (left : ℕ) (turns : List Turn) (bytes : List ℕ) (base first count : ℕ) →
      flat_map (event_features patterns plan left turns bytes base) (marks_of (level_events patterns plan left (has_view plan left turns)) bytes first count)
      ≡ owned patterns plan left turns bytes base first count
  unfolding owned marks_of
  run_gives left turns bytes base first zero = refl
  run_gives left turns bytes base first (suc count) =
      flat_map-append (event_features patterns plan left turns bytes base) (level_events patterns plan left (has_view plan left turns) (look_at bytes first) first)
      (marks_of (level_events patterns plan left (has_view plan left turns)) bytes (first + 1) count)
      ∙ ap (λ (front : List Feature). front ++ flat_map (event_features patterns plan left turns bytes base) (marks_of (level_events patterns plan left (has_view plan left turns)) bytes (first + 1) count))
      (place_gives left turns bytes base first)
      ∙ ap (λ (rest : List Feature). here patterns plan left turns (look_at bytes first) (base + first) ++ rest) (run_gives left turns bytes base (first + 1) count)
