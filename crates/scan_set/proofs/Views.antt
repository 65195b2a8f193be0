-- The events of a view are those of its buffer's places as the view has them.
use Rattle.std.proofs.Common.{◌≡◌, ◌∙◌, ℕ, zero, suc, ◌+◌, ◌-◌, Bool, true, false, List, [], ◌∷◌, ◌++◌, map, ap, refl, arith}
use Rattle.std.specs.Prelude.{nat_lt, Option}
use Rattle.std.proofs.lemmas.Bool.Decides.{nat_tests}
use Rattle.sbuf_nest.specs.Around.{Around, look_at}
use Rattle.sbuf_nest.specs.Marks.{marks_of, owned_marks}
use Rattle.sbuf_nest.specs.declared.sbuf.Sbuf.{Sbuf}
use Rattle.decode_views.specs.Xor.{xored_bytes, xored}
use Rattle.decode_views.proofs.Masked.{view_look}
use Rattle.scan_set.specs.Events.{viewed_event, nests, plain_events, view_events, level_events, merged_events}
use Rattle.scan_set.specs.declared.event.Event.{Event}
use Rattle.scan_set.specs.declared.plan.ScanPlan.{ScanPlan}
use Rattle.scan_set.proofs.Searches.{Judge, listed, listed_run, both, merged_both}
use Rattle.scan_set.proofs.Stands.{plain_stand, view_stand}

-- a level is left
pub level_left : (left : ℕ) → nat_lt 0 left ≡ nests left
level_left zero = grind (arith, nat_tests)
level_left (suc left) = grind (arith, nat_tests)

-- one is left below it
pub level_below : (left : ℕ) → nat_lt 1 left ≡ nests (left - 1)
level_below left =
    let same : nat_lt 1 left ≡ nat_lt 0 (left - 1) = grind (arith, nat_tests) in
    same ∙ level_left (left - 1)

pub view_run : (mask : ℕ) (bytes : List ℕ) (judge : Judge) (first count : ℕ) →
    marks_of (listed viewed_event judge) (xored_bytes mask bytes) first count
    ≡ marks_of (λ look place. map viewed_event (judge (xored mask look) place)) bytes first count
unfolding marks_of
view_run mask bytes judge first zero = refl
view_run mask bytes judge first (suc count) =
    ap (λ (look : Around). map viewed_event (judge look first) ++ marks_of (listed viewed_event judge) (xored_bytes mask bytes) (first + 1) count) (view_look mask bytes first)
    ∙ ap (λ rest. map viewed_event (judge (xored mask (look_at bytes first)) first) ++ rest) (view_run mask bytes judge (first + 1) count)

-- the events of a block, and those of its view behind them at each place, are those of the level
module _ (patterns : List (List ℕ → Option ℕ)) (plan : ScanPlan) (left : ℕ) (on below : Bool) (block seen : Sbuf) (first second new : List Event) where
  pub level_merged : on ≡ nests left → below ≡ nests (left - 1) →
      seen.bytes.now ≡ xored_bytes plan.mask block.bytes.now → seen.own_from ≡ block.own_from → seen.own_to ≡ block.own_to →
      first ≡ owned_marks (plain_events patterns plan on) block → second ≡ owned_marks (plain_events patterns plan below) seen →
      new ≡ merged_events first (map viewed_event second) → new ≡ owned_marks (level_events patterns plan left true) block
  level_merged is_on is_below bytes from to first_is second_is is =
      let plain = plain_events patterns plan below in
      let count = block.own_to - block.own_from in
      let same : marks_of (listed viewed_event plain) seen.bytes.now seen.own_from (seen.own_to - seen.own_from) ≡ owned_marks (view_events patterns plan below) block =
      rw (bytes, from, to) (view_run plan.mask block.bytes.now plain block.own_from count) in
      let viewed : map viewed_event second ≡ owned_marks (view_events patterns plan below) block =
      ap (map viewed_event) second_is ∙ listed_run seen.bytes.now viewed_event plain seen.own_from (seen.own_to - seen.own_from) ∙ same in
      let all : new ≡ owned_marks (both (plain_events patterns plan on) (view_events patterns plan below)) block =
      is ∙ ap (λ (back : List Event). merged_events first back) viewed
      ∙ ap (λ (front : List Event). merged_events front (owned_marks (view_events patterns plan below) block)) first_is
      ∙ merged_both block.bytes.now (plain_events patterns plan on) (view_events patterns plan below) (plain_stand patterns plan on) (view_stand patterns plan below)
      block.own_from count in
      rw (is_on, is_below) at all
