use Rattle.std.proofs.Common.{◌≡◌, ◌++◌, map, take, drop}
use Rattle.std.specs.Prelude.{bit_xor}
use Rattle.decode_views.proofs.xor.mask_all.Given as goal

-- the bytes so far are masked, and those behind are as they were
abbrev pub invariant-loop-byte : goal.invariant-loop-byte
invariant-loop-byte l = l.bytes ≡ map (bit_xor l.mask) (take l.byte-index l.fn.bytes) ++ drop l.byte-index l.fn.bytes
