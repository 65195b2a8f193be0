use Rattle.std.proofs.Common.{◌≡◌, ◌++◌, take}
use Rattle.image_gen.specs.Blocks.{widened}
use Rattle.image_gen.proofs.block.push_wide.Given as goal

abbrev pub invariant-loop-byte : goal.invariant-loop-byte
invariant-loop-byte l = l.into.items ≡ l.fn.into.items ++ widened (take l.byte-index l.text)
