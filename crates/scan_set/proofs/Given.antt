-- The features of a place are those that its events give, in a buffer as in its view.
use Rattle.std.proofs.Common.{◌≡◌, ◌∙◌, ℕ, zero, suc, ◌+◌, ◌-◌, Bool, true, false, not, ◌&&◌, ◌||◌, ◌/◌, length, List, [], ◌∷◌, ◌++◌, map, take, sym, ap, refl, subst, append_assoc, Option, Some, None, arith}
use Rattle.std.specs.Prelude.{option_map, nat_lt}
use Rattle.std.proofs.lemmas.Bool.{false≢true}
use Rattle.std.specs.List.{range_with_len, flat_map, list_any, All}
use Rattle.std.proofs.lemmas.List.{map-append, append-nil}
use Rattle.std.proofs.lemmas.List.Concat.{flat_map-append}
use Rattle.std.proofs.lemmas.List.Elements.{All-head, All-tail}
use Rattle.forensic_path.specs.declared.feature.Feature.{Feature}
use Rattle.forensic_path.specs.declared.path.Decoder.{Decoder}
use Rattle.forensic_path.specs.declared.path.Decoder.TheVariants.{Base64, Hex, Utf16, Xor}
use Rattle.forensic_path.specs.declared.scanner.Scanner.TheVariants as scanner
use Rattle.forensic_path.specs.Scanners.{is_on}
use Rattle.sbuf_nest.specs.Around.{Around, look_at}
use Rattle.sbuf_nest.specs.Marks.{marks_of, started}
use Rattle.sbuf_nest.specs.Turns.{turned, path_at, has_xor, is_xor}
use Rattle.sbuf_nest.specs.declared.mark.Extent.{Extent}
use Rattle.sbuf_nest.specs.declared.mark.Mark.{Mark}
use Rattle.sbuf_nest.specs.declared.mark.Start.{Start}
use Rattle.sbuf_nest.specs.declared.trail.Turn.{Turn}
use Rattle.decode_base64.specs.Base64.{base64_extent}
use Rattle.decode_base64.specs.Text.{letter_count, base64_text}
use Rattle.decode_hex.specs.Hex.{hex_extent, hex_run}
use Rattle.decode_views.specs.Utf16.{utf16_extent, utf16_run}
use Rattle.decode_views.specs.Xor.{xored}
use Rattle.scan_set.specs.Decoders.{Decoded, Encoded, encoded, texts, decoded, value_of, base64_at, hex_at, utf16_at, starts_at}
use Rattle.scan_set.specs.Events.{own_event, text_event, viewed_event, nests, has_view, plain_events, view_events, level_events, text_features, sign_features, event_features}
use Rattle.scan_set.specs.Here.{feature_of, takes_view, at_places, here, owned}
use Rattle.scan_set.specs.Marks.{marks_at, shape_of}
use Rattle.scan_set.specs.Shapes.{Shape, shapes, when}
use Rattle.scan_set.specs.declared.event.Event.{Event}
use Rattle.scan_set.specs.declared.event.Sign.{Sign}
use Rattle.scan_set.specs.declared.plan.ScanPlan.{ScanPlan}
use Rattle.scan_set.proofs.Says.{Sited, Says, said, sited, marks_say}

-- ---- lists

flat_map-three : {A B C : Type 0} (f : A → B) (g : B → List C) (a b c : List A) →
    flat_map g (map f (a ++ b ++ c)) ≡ flat_map g (map f a) ++ flat_map g (map f b) ++ flat_map g (map f c)
flat_map-three {A} {B} {C} f g a b c =
    ap (flat_map g) (map-append f (a ++ b) c) ∙ flat_map-append g (map f (a ++ b)) (map f c)
    ∙ ap (λ (front : List C). front ++ flat_map g (map f c)) (ap (flat_map g) (map-append f a b) ∙ flat_map-append g (map f a) (map f b))

pub flat_map-when : {A B : Type 0} (g : A → List B) (on : Bool) (xs : List A) → flat_map g (when on xs) ≡ when on (flat_map g xs)
flat_map-when {A} {B} g true xs = refl
flat_map-when {A} {B} g false xs = refl

-- two functions that give alike for each of the items give alike for all
pub flat_map-alike : {A B : Type 0} (f g : A → List B) (xs : List A) → All (λ x. f x ≡ g x) xs → flat_map f xs ≡ flat_map g xs
flat_map-alike {A} {B} f g [] same = refl
flat_map-alike {A} {B} f g (x ∷ xs) same =
    ap (λ (front : List B). front ++ flat_map f xs) (All-head (λ x. f x ≡ g x) x xs same)
    ∙ ap (λ (rest : List B). g x ++ rest) (flat_map-alike f g xs (All-tail (λ x. f x ≡ g x) x xs same))

or_true : (a b : Bool) → b ≡ true → (a || b) ≡ true
or_true true b is = refl
or_true false b is = is

-- a turn into a view is a XOR turn
pub has_xor-turned : (turns : List Turn) (place mask : ℕ) → has_xor (turned turns place (Xor mask)) ≡ true
has_xor-turned [] place mask = refl
has_xor-turned (turn ∷ turns) place mask = or_true (is_xor turn.by) _ (has_xor-turned turns place mask)

module _ (patterns : List (List ℕ → Option ℕ)) (plan : ScanPlan) where
  -- what an event gives, where its place is that of the Look; in a view it is the same of the view's Look
  abbrev pub plain_gives : ℕ → List Turn → Around → ℕ → Event → List Feature
  plain_gives left turns look place event = sign_features patterns plan left turns look place event.sign

  -- ---- the features of the shapes

  own_gives : (left : ℕ) (turns : List Turn) (look : Around) (at place : ℕ) (marks : List Mark) (found : List Shape) → Says look at marks found →
      flat_map (plain_gives left turns look place) (map own_event marks) ≡ map (feature_of plan look (path_at turns place)) found
  own_gives left turns look at place [] [] says = refl
  own_gives left turns look at place [] (shape ∷ found) says = absurd cc
  own_gives left turns look at place (mark ∷ marks) [] says = absurd cc
  own_gives left turns look at place (mark ∷ marks) (shape ∷ found) says =
      let first : said look mark ≡ sited at shape = cc in
      let same : shape_of look mark ≡ shape = ap (λ (one : Sited). one.shape) first in
      let rest : map (said look) marks ≡ map (sited at) found = cc in
      ap (λ (one : Shape). feature_of plan look (path_at turns place) one ∷ flat_map (plain_gives left turns look place) (map own_event marks)) same
      ∙ ap (λ more. feature_of plan look (path_at turns place) shape ∷ more) (own_gives left turns look at place marks found rest)

  -- ---- those of the texts

  module _ (left : ℕ) (turns : List Turn) (look : Around) (place : ℕ) where
    -- the features of a value
    abbrev value_gives : Decoded → List Feature
    value_gives d = at_places (here patterns plan left (turned turns place d.by)) d.value

    abbrev encoded_value : Encoded → Decoded
    encoded_value text = record { by = text.by; value = value_of text.by (take text.extent look.after) }

    -- the start of a text gives what its value gives
    start_gives : (on : Bool) (by : Decoder) (at : ℕ) (units : ℕ → ℕ) (extent : Option ℕ) →
        flat_map (plain_gives (suc left) turns look place) (map text_event (when on (started by at (option_map (λ n. record { bytes = n; units = units n }) extent))))
        ≡ flat_map value_gives (map encoded_value (when on (encoded by extent)))
    start_gives false by at units extent = refl
    start_gives true by at units None = refl
    start_gives true by at units (Some n) = refl

    -- those of all texts
    texts_give : (at : ℕ) →
        flat_map (plain_gives (suc left) turns look place) (map text_event (starts_at plan look at)) ≡ flat_map value_gives (decoded plan look)
    unfolding decoded texts base64_text hex_run utf16_run
    texts_give at =
        let G = plain_gives (suc left) turns look place in
        let one = start_gives (is_on plan.scanners scanner.Base64) Base64 at (λ n. letter_count (take n look.after)) (base64_extent look) in
        let two = start_gives (is_on plan.scanners scanner.Hex) Hex at (λ n. n) (hex_extent look) in
        let three = start_gives (is_on plan.scanners scanner.Utf16) Utf16 at (λ n. n / 2) (utf16_extent look) in
        flat_map-three text_event G (base64_at plan look at) (hex_at plan look at) (utf16_at plan look at)
        ∙ ap (λ (a : List Feature). a ++ flat_map G (map text_event (hex_at plan look at)) ++ flat_map G (map text_event (utf16_at plan look at))) one
        ∙ ap (λ (b : List Feature). flat_map value_gives (map encoded_value (when (is_on plan.scanners scanner.Base64) (encoded Base64 (base64_extent look)))) ++ b ++ flat_map G (map text_event (utf16_at plan look at))) two
        ∙ ap (λ (c : List Feature). flat_map value_gives (map encoded_value (when (is_on plan.scanners scanner.Base64) (encoded Base64 (base64_extent look))))
        ++ flat_map value_gives (map encoded_value (when (is_on plan.scanners scanner.Hex) (encoded Hex (hex_extent look)))) ++ c) three
        ∙ sym (flat_map-three encoded_value value_gives (when (is_on plan.scanners scanner.Base64) (encoded Base64 (base64_extent look)))
        (when (is_on plan.scanners scanner.Hex) (encoded Hex (hex_extent look))) (when (is_on plan.scanners scanner.Utf16) (encoded Utf16 (utf16_extent look))))

  -- ---- those of a place

  own_part : (left : ℕ) (turns : List Turn) (look : Around) (at place : ℕ) →
      flat_map (plain_gives left turns look place) (map own_event (marks_at patterns plan look at))
      ≡ map (feature_of plan look (path_at turns place)) (shapes patterns plan look)
  own_part left turns look at place =
      own_gives left turns look at place (marks_at patterns plan look at) (shapes patterns plan look) (marks_say plan look at patterns)

  -- where no view is searched, the events of a place give all of its features
  pub no_view : (left : ℕ) (turns : List Turn) (look : Around) (at place : ℕ) → has_view plan left turns ≡ false →
      flat_map (plain_gives left turns look place) (plain_events patterns plan (nests left) look at) ≡ here patterns plan left turns look place
  unfolding here
  no_view zero turns look at place none =
      ap (flat_map (plain_gives zero turns look place)) (append-nil (map own_event (marks_at patterns plan look at))) ∙ own_part zero turns look at place
  no_view (suc left) turns look at place none =
      let G = plain_gives (suc left) turns look place in
      let own = map own_event (marks_at patterns plan look at) in
      flat_map-append G own (map text_event (starts_at plan look at))
      ∙ ap (λ (front : List Feature). front ++ flat_map G (map text_event (starts_at plan look at))) (own_part (suc left) turns look at place)
      ∙ ap (λ (back : List Feature). map (feature_of plan look (path_at turns place)) (shapes patterns plan look) ++ back) (texts_give left turns look place at)
      ∙ sym (append-nil _)
      ∙ ap (λ (on : Bool). map (feature_of plan look (path_at turns place)) (shapes patterns plan look) ++ flat_map (value_gives left turns look place) (decoded plan look)
      ++ when on (here patterns plan left (turned turns place (Xor plan.mask)) (xored plan.mask look) 0)) (sym none)

  -- where one is searched, those of the view follow
  pub all_but_view : (left : ℕ) (turns : List Turn) (look : Around) (at place : ℕ) → has_view plan left turns ≡ true →
      flat_map (plain_gives left turns look place) (plain_events patterns plan (nests left) look at)
      ++ here patterns plan (left - 1) (turned turns place (Xor plan.mask)) (xored plan.mask look) 0
      ≡ here patterns plan left turns look place
  unfolding here
  all_but_view zero turns look at place some = absurd (false≢true some)
  all_but_view (suc left) turns look at place some =
      let G = plain_gives (suc left) turns look place in
      let own = map own_event (marks_at patterns plan look at) in
      let below : suc left - 1 ≡ left = omega arith in
      let last = here patterns plan left (turned turns place (Xor plan.mask)) (xored plan.mask look) 0 in
      ap (λ (n : ℕ). flat_map G (own ++ map text_event (starts_at plan look at)) ++ here patterns plan n (turned turns place (Xor plan.mask)) (xored plan.mask look) 0) below
      ∙ ap (λ (front : List Feature). front ++ last)
      (flat_map-append G own (map text_event (starts_at plan look at))
      ∙ ap (λ (front : List Feature). front ++ flat_map G (map text_event (starts_at plan look at))) (own_part (suc left) turns look at place)
      ∙ ap (λ (back : List Feature). map (feature_of plan look (path_at turns place)) (shapes patterns plan look) ++ back) (texts_give left turns look place at))
      ∙ ap (λ (on : Bool). map (feature_of plan look (path_at turns place)) (shapes patterns plan look) ++ flat_map (value_gives left turns look place) (decoded plan look)
      ++ when on last) (sym some)
