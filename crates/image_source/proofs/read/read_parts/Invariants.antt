use Rattle.std.proofs.Common.{◌≡◌, ◌+◌, ◌≤◌, length, take, drop, min, IfSome}
use Rattle.image_source.specs.Image.{joined, size_of}
use Rattle.image_source.specs.Inside.{slots_of}
use Rattle.image_source.proofs.read.read_parts.Given as goal

abbrev pub invariant-loop-slot : goal.invariant-loop-slot
invariant-loop-slot g l = record {
  same : g.S.Source.nature l.source ≡ g.S.Source.nature l.fn.source;
  slots : g.S.Source.slots l.source ≡ g.S.Source.slots l.fn.source;
  sure : g.S.Source.faults l.source ≡ g.S.Source.faults l.fn.source;
  border : l.border ≡ size_of (take l.slot (slots_of l.parts));
  room : length l.into ≡ length l.fn.into;
  filled : l.done ≤ length l.into;
  ahead : min (l.at + length l.into) l.border ≤ l.at + l.done;
  read : IfSome (joined (g.S.Source.nature l.fn.source) (slots_of l.parts)) (λ image. take l.done l.into ≡ take l.done (drop l.at image));
}
