use Rattle.std.proofs.Common.{◌≡◌, take}
use Rattle.image_source.specs.Image.{size_of}
use Rattle.image_source.specs.Inside.{slots_of}
use Rattle.image_source.proofs.parts.size_of.Given as goal

abbrev pub invariant-loop-part : goal.invariant-loop-part
invariant-loop-part l = l.size ≡ size_of (take l.part-index (slots_of l.parts))
