-- Events that stand where they say, and what a scan begins with.
use Rattle.std.specs.Prelude.{◌≡◌, ℕ, ◌+◌, ◌-◌, ◌<◌, ◌≤◌, List, length, Some, MatchBool}
use Rattle.forensic_path.specs.declared.path.Decoder.{Decoder}
use Rattle.sbuf_nest.specs.Around.{Around, look_at}
use Rattle.sbuf_nest.specs.Turns.{Way}
use Rattle.sbuf_nest.specs.declared.mark.Extent.{Extent}
use Rattle.scan_find.specs.declared.TheConstants.{PATTERNS_MOST}
use Rattle.decode_views.specs.Xor.{xored}
use Rattle.scan_set.specs.declared.event.Event.{Event}
use Rattle.scan_set.specs.declared.event.Sign.{Sign}
use Rattle.scan_set.specs.declared.event.Sign.TheVariants.{Own, Encoded}
use Rattle.scan_set.specs.declared.plan.ScanPlan.{ScanPlan}
use Rattle.scan_set.specs.Decoders.{text_of}
use Rattle.scan_set.specs.Lawful.{IsLawful}

-- a text of this extent begins at the place, and a level is left for what it says
abbrev pub FitsSign : ℕ → Around → Sign → Type 0
FitsSign left look (Own what which extent) = Unit {0}
FitsSign left look (Encoded by extent) = (1 ≤ left) × (text_of by look ≡ Some extent)

-- a text of this extent begins at some place from which on these are the bytes
abbrev pub IsTextAt : Decoder → List ℕ → Extent → Type 0
IsTextAt by after extent = (before : List ℕ) × (text_of by (record { before = before; after = after }) ≡ Some extent)

-- the event stands at a place of the bytes, or of their view
abbrev pub FitsEvent : ScanPlan → ℕ → List ℕ → Event → Type 0
FitsEvent plan left bytes event =
    (event.at < length bytes)
    × MatchBool event.in_view
    ((1 ≤ left) × FitsSign (left - 1) (xored plan.mask (look_at bytes event.at)) event.sign)
    (FitsSign left (look_at bytes event.at) event.sign)

-- A scan with so many levels left can begin: the plan is lawful, there are no more patterns than may be
-- given, and the trail has room for a turn into each level.
pub record IsReady (plan : ScanPlan) (left count : ℕ) (trail : Way) : Type 0 where
  pub lawful : IsLawful plan
  pub patterns : count ≤ PATTERNS_MOST
  pub steps : length trail.turns + left ≤ trail.limit
