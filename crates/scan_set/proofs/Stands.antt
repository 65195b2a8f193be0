-- The events of a place stand there, and those of all searches are those that a level goes over.
use Rattle.std.proofs.Common.{◌≡◌, ◌∙◌, ℕ, Bool, true, false, List, [], ◌∷◌, ◌++◌, map, sym, ap, refl, subst, append_assoc, Option, Some, None}
use Rattle.std.proofs.lemmas.List.{map-append, append-nil}
use Rattle.std.proofs.lemmas.List.Elements.{All-nil, All-cons, All-append, All-map}
use Rattle.forensic_path.specs.declared.path.Decoder.{Decoder}
use Rattle.forensic_path.specs.declared.path.Decoder.TheVariants.{Base64, Hex, Utf16}
use Rattle.forensic_path.specs.declared.scanner.Scanner.TheVariants as scanner
use Rattle.forensic_path.specs.Scanners.{is_on}
use Rattle.sbuf_nest.specs.Around.{Around}
use Rattle.sbuf_nest.specs.Marks.{started}
use Rattle.sbuf_nest.specs.declared.mark.Extent.{Extent}
use Rattle.sbuf_nest.specs.declared.mark.Mark.{Mark}
use Rattle.sbuf_nest.specs.declared.mark.Start.{Start}
use Rattle.decode_base64.specs.Text.{base64_text}
use Rattle.decode_hex.specs.Hex.{hex_run}
use Rattle.decode_views.specs.Utf16.{utf16_run}
use Rattle.decode_views.specs.Xor.{xored}
use Rattle.scan_set.specs.Decoders.{base64_at, hex_at, utf16_at, starts_at}
use Rattle.scan_set.specs.Events.{event_place, own_event, text_event, viewed_event, plain_events, view_events, level_events}
use Rattle.scan_set.specs.Marks.{urls_at, packets_at, execs_at, given_at, words_at, marks_at}
use Rattle.scan_set.specs.Shapes.{when, shapes}
use Rattle.scan_set.specs.declared.event.Event.{Event}
use Rattle.scan_set.specs.declared.plan.ScanPlan.{ScanPlan}
use Rattle.scan_set.proofs.Merging.{StandAt}
use Rattle.scan_set.proofs.Says.{url_shapes, packet_shapes, exec_shapes, given_shapes, word_shapes, urls_say, packets_say, execs_say, given_say, words_say, marks_say}
use Rattle.scan_set.proofs.Searches.{Stands, both, listed, stand_said}

-- what stands at a place, where the test says so
stand_when : (on : Bool) (place : ℕ) (events : List Event) → StandAt event_place place events → StandAt event_place place (when on events)
stand_when true place events stand = stand
stand_when false place events stand = All-nil (λ event. event_place event ≡ place)

-- a text stands where it begins
text_stands : (on : Bool) (by : Decoder) (place : ℕ) (extent : Option Extent) → StandAt event_place place (map text_event (when on (started by place extent)))
text_stands false by place extent = All-nil (λ event. event_place event ≡ place)
text_stands true by place None = All-nil (λ event. event_place event ≡ place)
text_stands true by place (Some extent) =
    let start : Start = record { at = place; by = by; extent = extent } in
    All-cons (λ event. event_place event ≡ place) (text_event start) [] refl (All-nil (λ event. event_place event ≡ place))

module _ (patterns : List (List ℕ → Option ℕ)) (plan : ScanPlan) where
  -- ---- each search

  pub urls_stand : Stands (listed own_event (urls_at plan))
  urls_stand look place = stand_said look place (urls_at plan look place) (url_shapes plan look place) (urls_say plan look place)

  pub packets_stand : Stands (listed own_event (packets_at plan))
  packets_stand look place = stand_said look place (packets_at plan look place) (packet_shapes plan look place) (packets_say plan look place)

  pub execs_stand : Stands (listed own_event (execs_at plan))
  execs_stand look place = stand_said look place (execs_at plan look place) (exec_shapes plan look place) (execs_say plan look place)

  pub given_stand : Stands (listed own_event (given_at patterns plan))
  given_stand look place = stand_said look place (given_at patterns plan look place) (given_shapes plan look place patterns) (given_say plan look place patterns)

  pub words_stand : Stands (listed own_event (words_at plan))
  words_stand look place = stand_said look place (words_at plan look place) (word_shapes plan look place) (words_say plan look place)

  pub base64_stand : Stands (listed text_event (base64_at plan))
  base64_stand look place = text_stands (is_on plan.scanners scanner.Base64) Base64 place (base64_text look)

  pub hex_stand : Stands (listed text_event (hex_at plan))
  hex_stand look place = text_stands (is_on plan.scanners scanner.Hex) Hex place (hex_run look)

  pub utf16_stand : Stands (listed text_event (utf16_at plan))
  utf16_stand look place = text_stands (is_on plan.scanners scanner.Utf16) Utf16 place (utf16_run look)

  -- ---- all of them

  map-five : (a b c d e : List Mark) → map own_event (a ++ b ++ c ++ d ++ e)
      ≡ map own_event a ++ map own_event b ++ map own_event c ++ map own_event d ++ map own_event e
  map-five a b c d e =
      map-append own_event (a ++ b ++ c ++ d) e
      ∙ ap (λ front. front ++ map own_event e)
      (map-append own_event (a ++ b ++ c) d
      ∙ ap (λ front. front ++ map own_event d)
      (map-append own_event (a ++ b) c ∙ ap (λ front. front ++ map own_event c) (map-append own_event a b)))

  -- the events of the scanners are those of each of them, one after the other
  pub scanners_alike : (look : Around) (place : ℕ) →
      map own_event (urls_at plan look place) ++ map own_event (packets_at plan look place) ++ map own_event (execs_at plan look place)
      ++ map own_event (given_at patterns plan look place) ++ map own_event (words_at plan look place)
      ≡ plain_events patterns plan false look place
  scanners_alike look place =
      sym (map-five (urls_at plan look place) (packets_at plan look place) (execs_at plan look place) (given_at patterns plan look place) (words_at plan look place))
      ∙ sym (append-nil (map own_event (marks_at patterns plan look place)))

  pub map-three : (a b c : List Start) → map text_event (a ++ b ++ c) ≡ map text_event a ++ map text_event b ++ map text_event c
  map-three a b c =
      map-append text_event (a ++ b) c ∙ ap (λ front. front ++ map text_event c) (map-append text_event a b)

  -- those of the decoders follow
  pub decoders_alike : (look : Around) (place : ℕ) →
      plain_events patterns plan false look place ++ map text_event (base64_at plan look place) ++ map text_event (hex_at plan look place)
      ++ map text_event (utf16_at plan look place)
      ≡ plain_events patterns plan true look place
  decoders_alike look place =
      let own = map own_event (marks_at patterns plan look place) in
      let one = map text_event (base64_at plan look place) in
      let two = map text_event (hex_at plan look place) in
      let three = map text_event (utf16_at plan look place) in
      ap (λ front. front ++ one ++ two ++ three) (append-nil own)
      ∙ ap (λ front. front ++ three) (append_assoc own one two) ∙ append_assoc own (one ++ two) three
      ∙ ap (λ back. own ++ back) (sym (map-three (base64_at plan look place) (hex_at plan look place) (utf16_at plan look place)))

  -- ---- and they stand there

  texts_stand : (on : Bool) (look : Around) (place : ℕ) → StandAt event_place place (when on (map text_event (starts_at plan look place)))
  texts_stand on look place =
      let one = base64_at plan look place in
      let two = hex_at plan look place in
      let three = utf16_at plan look place in
      let all : StandAt event_place place (map text_event one ++ map text_event two ++ map text_event three) =
      All-append (λ event. event_place event ≡ place) (map text_event one ++ map text_event two) (map text_event three)
      (All-append (λ event. event_place event ≡ place) (map text_event one) (map text_event two) (base64_stand look place) (hex_stand look place))
      (utf16_stand look place) in
      stand_when on place (map text_event (starts_at plan look place)) (subst (StandAt event_place place) (sym (map-three one two three)) all)

  pub plain_stand : (on : Bool) → Stands (plain_events patterns plan on)
  plain_stand on look place =
      All-append (λ event. event_place event ≡ place) (map own_event (marks_at patterns plan look place)) (when on (map text_event (starts_at plan look place)))
      (stand_said look place (marks_at patterns plan look place) (shapes patterns plan look) (marks_say plan look place patterns))
      (texts_stand on look place)

  pub view_stand : (on : Bool) → Stands (view_events patterns plan on)
  view_stand on look place =
      All-map (λ event. event_place event ≡ place) viewed_event (plain_events patterns plan on (xored plan.mask look) place)
      (plain_stand on (xored plan.mask look) place)
