use Rattle.std.proofs.Common.{◌≡◌, ◌+◌, ◌*◌, drop}
use Rattle.decode_views.specs.Utf16.{pairs_in}
use Rattle.decode_views.proofs.run.pairs_in.Given as goal

-- so many pairs stand in front of the rest
abbrev pub invariant-loop-pair : goal.invariant-loop-pair
invariant-loop-pair l = pairs_in l.bytes ≡ l.pair + pairs_in (drop (2 * l.pair) l.bytes)
