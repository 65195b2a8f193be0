use Rattle.std.proofs.Common.{◌≡◌, take}
use Rattle.stop_lists.specs.Hash.{hash_more}
use Rattle.stop_lists.proofs.hash.hash_more.Given as goal

abbrev pub invariant-loop-byte : goal.invariant-loop-byte
invariant-loop-byte l = l.state ≡ hash_more l.hash (take l.byte-index l.bytes)
