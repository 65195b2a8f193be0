use Rattle.std.proofs.Common.{◌≡◌, ℕ, ◌*◌, ◌<◌, get_or}
use Rattle.decode_views.proofs.value.first_bytes.Given as goal

-- the first byte of each pair so far is written
abbrev pub invariant-loop-pair : goal.invariant-loop-pair
invariant-loop-pair l = (pair : ℕ) → pair < l.pair → get_or l.into pair 0 ≡ get_or l.pairs (2 * pair) 0
