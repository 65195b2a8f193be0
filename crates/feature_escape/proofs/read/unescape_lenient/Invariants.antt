use Rattle.std.proofs.Common.{◌≡◌, ◌++◌, length}
use Rattle.feature_escape.specs.Escape.{unescape_lenient_of}
use Rattle.feature_escape.proofs.read.unescape_lenient.Given as goal

abbrev pub invariant-loop-at : goal.invariant-loop-at
invariant-loop-at l = l.bytes.items ++ unescape_lenient_of l.rest ≡ unescape_lenient_of l.text

abbrev pub decreases-loop-at : goal.decreases-loop-at
decreases-loop-at l = length l.rest
