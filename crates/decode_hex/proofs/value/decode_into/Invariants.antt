use Rattle.std.proofs.Common.{◌≡◌, ℕ, ◌<◌, get_or}
use Rattle.decode_hex.proofs.Digits.{pair_value}
use Rattle.decode_hex.proofs.value.decode_into.Given as goal

-- each byte passed is that of its two digits
abbrev pub invariant-loop-at : goal.invariant-loop-at
invariant-loop-at l = (at : ℕ) → at < l.at → get_or l.into at 0 ≡ pair_value l.digits at
