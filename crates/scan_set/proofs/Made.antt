-- What a step of a scan has made, by what its calls have made.
use Rattle.std.proofs.Common.{◌≡◌, ◌∙◌, ℕ, ◌+◌, ◌-◌, ◌≤◌, List, ◌++◌, length, take, sym, ap, arith, append_assoc, Option}
use Rattle.std.specs.List.{flat_map}
use Rattle.std.proofs.lemmas.List.{take_all}
use Rattle.forensic_path.specs.declared.feature.Feature.{Feature}
use Rattle.forensic_path.specs.declared.path.Decoder.{Decoder}
use Rattle.sbuf_nest.specs.Around.{Around, look_at}
use Rattle.sbuf_nest.specs.Marks.{owned_marks}
use Rattle.sbuf_nest.specs.Turns.{turned}
use Rattle.sbuf_nest.specs.declared.sbuf.Sbuf.{Sbuf}
use Rattle.sbuf_nest.specs.declared.trail.Turn.{Turn}
use Rattle.decode_views.specs.Xor.{xored, xored_bytes}
use Rattle.decode_views.proofs.Masked.{view_look}
use Rattle.scan_set.specs.Events.{has_view, level_events, event_features, sign_features}
use Rattle.scan_set.specs.Here.{at_places, here, owned}
use Rattle.scan_set.specs.declared.event.Event.{Event}
use Rattle.scan_set.specs.declared.event.Sign.{Sign}
use Rattle.scan_set.specs.declared.plan.ScanPlan.{ScanPlan}
use Rattle.scan_set.proofs.Images.{owned-join, places_owned}
use Rattle.scan_set.proofs.Levels.{run_gives}

-- the bytes of a view, lent, at a place
pub view_seen : (mask : ℕ) (bytes view seen : List ℕ) (at : ℕ) → seen ≡ view → view ≡ xored_bytes mask bytes →
    look_at seen at ≡ xored mask (look_at bytes at)
view_seen mask bytes view seen at is masked = ap (λ (b : List ℕ). look_at b at) (is ∙ masked) ∙ view_look mask bytes at

-- a turn at a place by another name
pub turned_same : (turns ways : List Turn) (place other : ℕ) (by : Decoder) → ways ≡ turned turns place by → place ≡ other →
    ways ≡ turned turns other by
turned_same turns ways place other by is same = is ∙ ap (λ (at : ℕ). turned turns at by) same

module _ (patterns : List (List ℕ → Option ℕ)) (plan : ScanPlan) (left : ℕ) (old : List Feature) where
  -- the features of what stands at a place, by turns and a Look that are the same
  pub sign_made : (sign : Sign) (turns ways : List Turn) (look seen : Around) (new : List Feature) →
      new ≡ old ++ sign_features patterns plan left ways seen 0 sign → ways ≡ turns → seen ≡ look →
      new ≡ old ++ sign_features patterns plan left turns look 0 sign
  sign_made sign turns ways look seen new made same sees =
      made ∙ ap (λ (way : List Turn). old ++ sign_features patterns plan left way seen 0 sign) same
      ∙ ap (λ (around : Around). old ++ sign_features patterns plan left turns around 0 sign) sees

  -- the features of a block, whose events are all passed
  pub block_made : (turns : List Turn) (block : Sbuf) (events : List Event) (passed : ℕ) (new : List Feature) →
      events ≡ owned_marks (level_events patterns plan left (has_view plan left turns)) block → length events ≤ passed →
      new ≡ old ++ flat_map (event_features patterns plan left turns block.bytes.now block.base) (take passed events) →
      new ≡ old ++ owned patterns plan left turns block.bytes.now block.base block.own_from (block.own_to - block.own_from)
  block_made turns block events passed new listed all made =
      let gives = event_features patterns plan left turns block.bytes.now block.base in
      made ∙ ap (λ (events : List Event). old ++ flat_map gives events) (take_all passed events all ∙ listed)
      ∙ ap (λ (more : List Feature). old ++ more) (run_gives patterns plan left turns block.bytes.now block.base block.own_from (block.own_to - block.own_from))

  -- the features of one block more
  pub owned_more : (turns : List Turn) (bytes : List ℕ) (base first next to : ℕ) (before new : List Feature) → first ≤ next → next ≤ to →
      before ≡ old ++ owned patterns plan left turns bytes base first (next - first) →
      new ≡ before ++ owned patterns plan left turns bytes base next (to - next) →
      new ≡ old ++ owned patterns plan left turns bytes base first (to - first)
  owned_more turns bytes base first next to before new low high so_far more =
      let ahead = owned patterns plan left turns bytes base first (next - first) in
      let this = owned patterns plan left turns bytes base next (to - next) in
      more ∙ ap (λ (made : List Feature). made ++ this) so_far ∙ append_assoc old ahead this
      ∙ ap (λ (made : List Feature). old ++ made) (owned-join patterns plan left turns bytes base first next to low high)

  -- the features of a value, which is a buffer that owns all of its places
  pub value_made : (turns ways : List Turn) (value : List ℕ) (child : Sbuf) (new : List Feature) → ways ≡ turns →
      child.bytes.now ≡ value → child.own_from ≡ 0 → child.own_to ≡ length value → child.base ≡ 0 →
      new ≡ old ++ owned patterns plan left ways child.bytes.now child.base child.own_from (child.own_to - child.own_from) →
      new ≡ old ++ at_places (here patterns plan left turns) value
  value_made turns ways value child new same bytes from to base made =
      let all : length value - 0 ≡ length value = omega arith in
      let whole : new ≡ old ++ owned patterns plan left turns value 0 0 (length value - 0) = rw (same, bytes, from, to, base) at made in
      (rw all at whole) ∙ ap (λ (features : List Feature). old ++ features) (sym (places_owned patterns plan left turns value))
