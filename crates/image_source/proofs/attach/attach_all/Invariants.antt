use Rattle.std.proofs.Common.{◌≡◌, map, take}
use Rattle.std.specs.List.{All}
use Rattle.image_source.specs.declared.attach.Part.{Part}
use Rattle.image_source.specs.Image.{AreAttached, IsPart}
use Rattle.image_source.specs.Inside.{slots_of}
use Rattle.image_source.proofs.attach.attach_all.Given as goal

abbrev pub invariant-loop-name : goal.invariant-loop-name
invariant-loop-name g l = record {
  same : g.S.Source.nature l.source ≡ g.S.Source.nature l.fn.source;
  sure : g.S.Source.faults l.source ≡ g.S.Source.faults l.fn.source;
  attached : AreAttached (g.S.Source.slots l.source) (slots_of l.parts.items);
  named : map (λ (part : Part). part.name) l.parts.items ≡ take l.name-index l.names;
  parts : All (IsPart (g.S.Source.nature l.fn.source)) (slots_of l.parts.items);
}
