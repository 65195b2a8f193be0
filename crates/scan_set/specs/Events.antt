-- What a scan goes over: the events of a buffer, in order of place.
use Rattle.std.specs.Prelude.{ℕ, zero, suc, ◌+◌, ◌-◌, ◌&&◌, Bool, true, false, List, [], ◌∷◌, ◌++◌, map, take, Option, if◌then◌else◌}
use Rattle.forensic_path.specs.declared.feature.Feature.{Feature}
use Rattle.forensic_path.specs.declared.path.Decoder.{Decoder}
use Rattle.forensic_path.specs.declared.path.Decoder.TheVariants.{Xor}
use Rattle.sbuf_nest.specs.Around.{Around, look_at}
use Rattle.sbuf_nest.specs.Turns.{turned, path_at}
use Rattle.sbuf_nest.specs.declared.mark.Extent.{Extent}
use Rattle.sbuf_nest.specs.declared.mark.Mark.{Mark}
use Rattle.sbuf_nest.specs.declared.mark.Start.{Start}
use Rattle.sbuf_nest.specs.declared.trail.Turn.{Turn}
use Rattle.decode_views.specs.Xor.{xored}
use Rattle.scan_set.specs.declared.event.Event.{Event}
use Rattle.scan_set.specs.declared.event.Sign.{Sign}
use Rattle.scan_set.specs.declared.event.Sign.TheVariants.{Own, Encoded}
use Rattle.scan_set.specs.declared.plan.ScanPlan.{ScanPlan}
use Rattle.scan_set.specs.Decoders.{starts_at, value_of}
use Rattle.scan_set.specs.Here.{feature_of, takes_view, at_places, here}
use Rattle.scan_set.specs.Marks.{marks_at, shape_of}
use Rattle.scan_set.specs.Merged.{merged}
use Rattle.scan_set.specs.Shapes.{when}

-- ---- what stands where

-- the event of a mark: a feature of the buffer's own
abbrev pub own_event : Mark → Event
own_event mark = record { at = mark.at; in_view = false; sign = Own mark.kind mark.which mark.extent }

-- the event of a text that begins at a place
abbrev pub text_event : Start → Event
text_event start = record { at = start.at; in_view = false; sign = Encoded start.by start.extent }

-- an event of the view, as one of the buffer
abbrev pub viewed_event : Event → Event
viewed_event event = record event { in_view = true }

-- the place of an event
abbrev pub event_place : Event → ℕ
event_place event = event.at

-- two lists of events by place, where those of the first list come first at a place
abbrev pub merged_events : List Event → List Event → List Event
merged_events = merged event_place

-- texts are decoded where a level is left for what they say
abbrev pub nests : ℕ → Bool
nests zero = false
nests (suc left) = true

-- a view is searched where a level is left for it
abbrev pub has_view : ScanPlan → ℕ → List Turn → Bool
has_view plan left turns = nests left && takes_view plan turns

module _ (patterns : List (List ℕ → Option ℕ)) (plan : ScanPlan) where
  -- the events of a place, of its marks, and of the texts that begin there
  abbrev pub plain_events : Bool → Around → ℕ → List Event
  plain_events on look place = map own_event (marks_at patterns plan look place) ++ when on (map text_event (starts_at plan look place))

  -- the same of the place as the view has it
  abbrev pub view_events : Bool → Around → ℕ → List Event
  view_events on look place = map viewed_event (plain_events on (xored plan.mask look) place)

  -- the events of a place in which so many levels are left, and of the view, where it is searched
  abbrev pub level_events : ℕ → Bool → Around → ℕ → List Event
  level_events left viewed look place =
      plain_events (nests left) look place ++ when viewed (view_events (nests (left - 1)) look place)

  -- ---- the features that they give

  -- those of the text that is encoded at a place
  abbrev pub text_features : ℕ → List Turn → Around → ℕ → Decoder → Extent → List Feature
  text_features zero turns look place by extent = []
  text_features (suc left) turns look place by extent =
      at_places (here patterns plan left (turned turns place by)) (value_of by (take extent.bytes look.after))

  -- those of what stands at a place
  abbrev pub sign_features : ℕ → List Turn → Around → ℕ → Sign → List Feature
  sign_features left turns look place (Own kind which extent) =
      feature_of plan look (path_at turns place) (shape_of look (record { at = place; kind = kind; which = which; extent = extent })) ∷ []
  sign_features left turns look place (Encoded by extent) = text_features left turns look place by extent

  -- those of an event, in a buffer whose byte 0 stands at the base
  abbrev pub event_features : ℕ → List Turn → List ℕ → ℕ → Event → List Feature
  event_features left turns bytes base event =
      let look = look_at bytes event.at in
      let place = base + event.at in
      if event.in_view then sign_features (left - 1) (turned turns place (Xor plan.mask)) (xored plan.mask look) 0 event.sign
      else sign_features left turns look place event.sign
