use Rattle.std.proofs.Common.{◌≡◌, ◌++◌, length}
use Rattle.feature_escape.specs.Escape.{AreBytes, escape_of}
use Rattle.feature_escape.proofs.read.unescape_strict.Given as goal

abbrev pub invariant-loop-at : goal.invariant-loop-at
invariant-loop-at l = record {
  are_bytes : AreBytes l.bytes.items;
  read : escape_of l.bytes.items ++ l.rest ≡ l.text;
}

abbrev pub decreases-loop-at : goal.decreases-loop-at
decreases-loop-at l = length l.rest
