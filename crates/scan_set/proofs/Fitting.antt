-- Each event of a level stands where it says.
use Rattle.std.proofs.Common.{◌≡◌, ◌∙◌, ℕ, zero, suc, ◌+◌, ◌-◌, ◌<◌, ◌≤◌, Bool, true, false, List, [], ◌∷◌, ◌++◌, map, length, get_or, sym, ap, refl, subst, Option, Some, None, arith}
use Rattle.std.specs.List.{range_with_len, flat_map, All}
use Rattle.std.proofs.lemmas.Bool.{false≢true}
use Rattle.std.proofs.lemmas.List.Elements.{All-nil, All-cons, All-append, All-map, All-get_or}
use Rattle.forensic_path.specs.declared.path.Decoder.{Decoder}
use Rattle.forensic_path.specs.declared.path.Decoder.TheVariants.{Base64, Hex, Utf16}
use Rattle.forensic_path.specs.declared.scanner.Scanner.TheVariants as scanner
use Rattle.forensic_path.specs.Scanners.{is_on}
use Rattle.sbuf_nest.specs.Around.{Around, look_at}
use Rattle.sbuf_nest.specs.Marks.{marks_of, started}
use Rattle.sbuf_nest.specs.Turns.{turned}
use Rattle.sbuf_nest.specs.declared.mark.Extent.{Extent}
use Rattle.sbuf_nest.specs.declared.mark.Mark.{Mark}
use Rattle.sbuf_nest.specs.declared.mark.Start.{Start}
use Rattle.sbuf_nest.specs.declared.trail.Turn.{Turn}
use Rattle.decode_base64.specs.Text.{base64_text}
use Rattle.decode_hex.specs.Hex.{hex_run}
use Rattle.decode_views.specs.Utf16.{utf16_run}
use Rattle.decode_views.specs.Xor.{xored}
use Rattle.scan_set.specs.Decoders.{text_of, base64_at, hex_at, utf16_at, starts_at}
use Rattle.scan_set.specs.Events.{event_place, own_event, text_event, viewed_event, nests, has_view, plain_events, view_events, level_events}
use Rattle.scan_set.specs.Fits.{FitsSign, FitsEvent}
use Rattle.scan_set.specs.Here.{takes_view}
use Rattle.scan_set.specs.Marks.{marks_at}
use Rattle.scan_set.specs.Shapes.{when}
use Rattle.scan_set.specs.declared.event.Event.{Event}
use Rattle.scan_set.specs.declared.plan.ScanPlan.{ScanPlan}
use Rattle.scan_set.proofs.Merging.{StandAt}
use Rattle.scan_set.proofs.Stands.{plain_stand, map-three}
use Rattle.scan_set.proofs.Levels.{unviewed}

-- what an event's sign says of a Look
abbrev Sound : ℕ → Around → Event → Type 0
Sound left look event = FitsSign left look event.sign

module _ (patterns : List (List ℕ → Option ℕ)) (plan : ScanPlan) where
  -- a text is of its decoder
  start_sound : (left : ℕ) (look : Around) (on : Bool) (by : Decoder) (place : ℕ) (extent : Option Extent) → text_of by look ≡ extent →
      All (Sound (suc left) look) (map text_event (when on (started by place extent)))
  start_sound left look false by place extent is = All-nil (Sound (suc left) look)
  start_sound left look true by place None is = All-nil (Sound (suc left) look)
  start_sound left look true by place (Some extent) is =
      let start : Start = record { at = place; by = by; extent = extent } in
      All-cons (Sound (suc left) look) (text_event start) [] (omega arith, is) (All-nil (Sound (suc left) look))

  plain_sound : (left : ℕ) (look : Around) (place : ℕ) → All (Sound left look) (plain_events patterns plan (nests left) look place)
  plain_sound zero look place =
      All-append (Sound zero look) (map own_event (marks_at patterns plan look place)) []
      (All-map (Sound zero look) own_event (marks_at patterns plan look place) (λ k d lt. tt)) (All-nil (Sound zero look))
  plain_sound (suc left) look place =
      let P = Sound (suc left) look in
      let one = base64_at plan look place in
      let two = hex_at plan look place in
      let three = utf16_at plan look place in
      let all : All P (map text_event one ++ map text_event two ++ map text_event three) =
      All-append P (map text_event one ++ map text_event two) (map text_event three)
      (All-append P (map text_event one) (map text_event two)
      (start_sound left look (is_on plan.scanners scanner.Base64) Base64 place (base64_text look) refl)
      (start_sound left look (is_on plan.scanners scanner.Hex) Hex place (hex_run look) refl))
      (start_sound left look (is_on plan.scanners scanner.Utf16) Utf16 place (utf16_run look) refl) in
      All-append P (map own_event (marks_at patterns plan look place)) (map text_event (starts_at plan look place))
      (All-map P own_event (marks_at patterns plan look place) (λ k d lt. tt))
      (subst (All P) (sym (map-three patterns plan one two three)) all)

  module _ (left : ℕ) (bytes : List ℕ) (place : ℕ) (inside : place < length bytes) where
    plain_fits : (event : Event) → event_place event ≡ place → event.in_view ≡ false → Sound left (look_at bytes place) event → FitsEvent plan left bytes event
    plain_fits event is plain sound = rw (is, plain) (inside, sound)

    view_fits : 1 ≤ left → (event : Event) → event_place event ≡ place → Sound (left - 1) (xored plan.mask (look_at bytes place)) event → FitsEvent plan left bytes (viewed_event event)
    view_fits some event is sound = rw is (inside, (some, sound))

    viewed_fit : (on : Bool) → (on ≡ true → 1 ≤ left) → All (FitsEvent plan left bytes) (when on (view_events patterns plan (nests (left - 1)) (look_at bytes place) place))
    viewed_fit false some = All-nil (FitsEvent plan left bytes)
    viewed_fit true some =
        let look = xored plan.mask (look_at bytes place) in
        let stand = plain_stand patterns plan (nests (left - 1)) look place in
        let sound = plain_sound (left - 1) look place in
        All-map (FitsEvent plan left bytes) viewed_event (plain_events patterns plan (nests (left - 1)) look place)
        (λ k d lt. view_fits (some refl) (get_or (plain_events patterns plan (nests (left - 1)) look place) k d) (stand k d lt) (sound k d lt))

    place_fits : (on : Bool) → (on ≡ true → 1 ≤ left) → All (FitsEvent plan left bytes) (level_events patterns plan left on (look_at bytes place) place)
    place_fits on some =
        let look = look_at bytes place in
        let P = FitsEvent plan left bytes in
        let plain = plain_events patterns plan (nests left) look place in
        let stand = plain_stand patterns plan (nests left) look place in
        let none = unviewed (nests left) (marks_at patterns plan look place) (starts_at plan look place) in
        let sound = plain_sound left look place in
        All-append P plain (when on (view_events patterns plan (nests (left - 1)) look place))
        (λ k d lt. plain_fits _ (stand k d lt) (none k d lt) (sound k d lt)) (viewed_fit on some)

  -- a level is left where a view is searched
  view_left : (left : ℕ) (turns : List Turn) → has_view plan left turns ≡ true → 1 ≤ left
  view_left zero turns is = absurd (false≢true is)
  view_left (suc left) turns is = omega arith

  run_fits : (left : ℕ) (turns : List Turn) (bytes : List ℕ) (first count : ℕ) → first + count ≤ length bytes →
      All (FitsEvent plan left bytes) (marks_of (level_events patterns plan left (has_view plan left turns)) bytes first count)
  unfolding marks_of
  run_fits left turns bytes first zero within = All-nil (FitsEvent plan left bytes)
  run_fits left turns bytes first (suc count) within =
      All-append (FitsEvent plan left bytes) (level_events patterns plan left (has_view plan left turns) (look_at bytes first) first)
      (marks_of (level_events patterns plan left (has_view plan left turns)) bytes (first + 1) count)
      (place_fits left bytes first (omega arith) (has_view plan left turns) (view_left left turns))
      (run_fits left turns bytes (first + 1) count (omega arith))

  -- so does each of a block's events
  pub event_fits : (left : ℕ) (turns : List Turn) (bytes : List ℕ) (first count : ℕ) (events : List Event) (i : ℕ) (other : Event) →
      first + count ≤ length bytes → events ≡ marks_of (level_events patterns plan left (has_view plan left turns)) bytes first count →
      i < length events → FitsEvent plan left bytes (get_or events i other)
  event_fits left turns bytes first count events i other within all lt =
      All-get_or (FitsEvent plan left bytes) events i other lt
      (subst (All (FitsEvent plan left bytes)) (sym all) (run_fits left turns bytes first count within))
