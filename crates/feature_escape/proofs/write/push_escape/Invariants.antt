use Rattle.std.proofs.Common.{◌≡◌, ◌++◌, take, length, vec_len}
use Rattle.feature_escape.specs.Escape.{escape_of}
use Rattle.feature_escape.proofs.write.push_escape.Given as goal

abbrev pub invariant-loop-at : goal.invariant-loop-at
invariant-loop-at l = record {
  written : l.into.items ++ escape_of l.rest ≡ l.fn.into.items ++ escape_of l.bytes;
  front : take (vec_len l.fn.into) l.into.items ≡ l.fn.into.items;
}

abbrev pub decreases-loop-at : goal.decreases-loop-at
decreases-loop-at l = length l.rest
