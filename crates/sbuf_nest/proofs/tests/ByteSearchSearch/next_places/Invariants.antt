use Rattle.std.proofs.Common.{◌==◌, false, ◌≡◌, ℕ, ◌<◌, ◌≤◌}
use Rattle.std.specs.Prelude.{slice_get}
use Rattle.std.specs.Option.{option_map_or}
use Rattle.sbuf_nest.specs.Around.{look_at}
use Rattle.sbuf_nest.proofs.tests.ByteSearchSearch.next_places.Given as goal

-- the byte stands at no place passed
abbrev pub invariant-loop-place : goal.invariant-loop-place
invariant-loop-place l =
    (place : ℕ) → l.next ≤ place → place < l.place →
    option_map_or (λ first. first == l.self.byte) (slice_get (look_at l.sb.bytes.now place).after 0) false ≡ false
