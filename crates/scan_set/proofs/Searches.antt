-- The lists of several searches, merged by place, are the list of one search for all of it.
use Rattle.std.proofs.Common.{◌≡◌, ◌∙◌, ℕ, zero, suc, ◌+◌, ◌-◌, Bool, true, false, List, [], ◌∷◌, ◌++◌, map, sym, ap, refl, subst, append_assoc, Option, Some, None}
use Rattle.std.specs.List.{range_with_len, flat_map}
use Rattle.std.proofs.lemmas.List.{map-append, append-nil}
use Rattle.std.proofs.lemmas.List.Elements.{All-nil, All-cons, All-append, All-map}
use Rattle.forensic_path.specs.declared.path.Decoder.{Decoder}
use Rattle.sbuf_nest.specs.Around.{Around, look_at}
use Rattle.sbuf_nest.specs.Marks.{marks_of, owned_marks, started}
use Rattle.sbuf_nest.specs.declared.mark.Extent.{Extent}
use Rattle.sbuf_nest.specs.declared.mark.Mark.{Mark}
use Rattle.sbuf_nest.specs.declared.mark.Start.{Start}
use Rattle.sbuf_nest.specs.declared.sbuf.Sbuf.{Sbuf}
use Rattle.scan_set.specs.Events.{event_place, own_event, merged_events}
use Rattle.scan_set.specs.Shapes.{Shape, when}
use Rattle.scan_set.specs.declared.event.Event.{Event}
use Rattle.scan_set.proofs.Merging.{StandAt, merged-runs}
use Rattle.scan_set.proofs.Says.{Sited, Says, said, sited}

-- ---- searches for events

-- the events of a place
abbrev pub Judge : Type 0
Judge = Around → ℕ → List Event

-- each of them stands at the place
abbrev pub Stands : Judge → Type 0
Stands judge = (look : Around) (place : ℕ) → StandAt event_place place (judge look place)

-- one search, then another one
abbrev pub both : Judge → Judge → Judge
both judge other look place = judge look place ++ other look place

pub stands_both : (judge other : Judge) → Stands judge → Stands other → Stands (both judge other)
stands_both judge other stands stand look place =
    All-append (λ event. event_place event ≡ place) (judge look place) (other look place) (stands look place) (stand look place)

-- the events of what a search lists
abbrev pub listed : {A : Type 0} → (A → Event) → (Around → ℕ → List A) → Judge
listed {A} event judge look place = map event (judge look place)

-- marks that say shapes of a place stand there
pub stand_said : (look : Around) (place : ℕ) (marks : List Mark) (found : List Shape) → Says look place marks found →
    StandAt event_place place (map own_event marks)
stand_said look place [] found says = All-nil (λ event. event_place event ≡ place)
stand_said look place (mark ∷ marks) [] says = absurd cc
stand_said look place (mark ∷ marks) (shape ∷ found) says =
    let first : said look mark ≡ sited place shape = cc in
    let at : mark.at ≡ place = ap (λ (one : Sited). one.at) first in
    let rest : map (said look) marks ≡ map (sited place) found = cc in
    All-cons (λ event. event_place event ≡ place) (own_event mark) (map own_event marks) at (stand_said look place marks found rest)

-- ---- the events of a run of places

module _ (bytes : List ℕ) where
  -- two searches that give alike at each place give alike at all
  pub alike : {A : Type 0} (judge other : Around → ℕ → List A) → ((look : Around) (place : ℕ) → judge look place ≡ other look place) →
      (first count : ℕ) → marks_of judge bytes first count ≡ marks_of other bytes first count
  unfolding marks_of
  alike {A} judge other same first zero = refl
  alike {A} judge other same first (suc count) =
      rw (same (look_at bytes first) first) (ap (λ rest. other (look_at bytes first) first ++ rest) (alike judge other same (first + 1) count))

  -- the events of what is listed, place by place
  pub listed_run : {A : Type 0} (event : A → Event) (judge : Around → ℕ → List A) (first count : ℕ) →
      map event (marks_of judge bytes first count) ≡ marks_of (listed event judge) bytes first count
  unfolding marks_of
  listed_run {A} event judge first zero = refl
  listed_run {A} event judge first (suc count) =
      map-append event (judge (look_at bytes first) first) (marks_of judge bytes (first + 1) count)
      ∙ ap (λ rest. map event (judge (look_at bytes first) first) ++ rest) (listed_run event judge (first + 1) count)

  -- the events of two searches merge to those of both
  pub merged_both : (judge other : Judge) → Stands judge → Stands other → (first count : ℕ) →
      merged_events (marks_of judge bytes first count) (marks_of other bytes first count) ≡ marks_of (both judge other) bytes first count
  unfolding marks_of
  merged_both judge other stands stand first count =
      merged-runs event_place (λ place. judge (look_at bytes place) place) (λ place. other (look_at bytes place) place)
      (λ place. stands (look_at bytes place) place) (λ place. stand (look_at bytes place) place) first count

-- what the first search has found is merged into no events
pub first_listed : {A : Type 0} (event : A → Event) (judge : Around → ℕ → List A) (sb : Sbuf) (events new : List Event) (found : List A) →
    events ≡ [] → found ≡ owned_marks judge sb → new ≡ merged_events events (map event found) → new ≡ owned_marks (listed event judge) sb
first_listed {A} event judge sb events new found none more is =
    is ∙ ap (λ (front : List Event). merged_events front (map event found)) none ∙ ap (map event) more
    ∙ listed_run sb.bytes.now event judge sb.own_from (sb.own_to - sb.own_from)

-- what one more search has found is merged into the events so far
pub one_more : {A : Type 0} (event : A → Event) (judge : Judge) (other : Around → ℕ → List A) → Stands judge → Stands (listed event other) →
    (sb : Sbuf) (events new : List Event) (found : List A) →
    events ≡ owned_marks judge sb → found ≡ owned_marks other sb → new ≡ merged_events events (map event found) →
    new ≡ owned_marks (both judge (listed event other)) sb
one_more {A} event judge other stands stand sb events new found so_far more is =
    is ∙ ap (λ (front : List Event). merged_events front (map event found)) so_far
    ∙ ap (λ (back : List A). merged_events (owned_marks judge sb) (map event back)) more
    ∙ ap (λ (back : List Event). merged_events (owned_marks judge sb) back) (listed_run sb.bytes.now event other sb.own_from (sb.own_to - sb.own_from))
    ∙ merged_both sb.bytes.now judge (listed event other) stands stand sb.own_from (sb.own_to - sb.own_from)
