use Rattle.std.proofs.Common.{◌∙◌, ◌≤◌, length, sym, ap, arith}
use Rattle.std.proofs.lemmas.List.{length-map}
use Rattle.image_source.specs.declared.attach.Part.{Part}
use Rattle.image_source.specs.Inside.{slot_of}
use Rattle.image_source.proofs.PartLemmas.{inside_small, slot_names}
use Rattle.image_source.proofs.parts.Parts.attach.Goals as goal

pub size_of-requires-clause-small : goal.size_of-requires-clause-small
size_of-requires-clause-small g c =
    let few : length c.in-Ok.parts.items ≤ 64 = omega (arith, c.requires.most, ap length c.in-Ok.ensures.named, length-map c.in-Ok.parts.items (λ (part : Part). part.name)) in
    rw c.as_slice.ensures.value (inside_small _ c.in-Ok.parts.items c.in-Ok.ensures.parts few)

pub invariant_of-result : goal.invariant_of-result
invariant_of-result g c =
    let few : length c.in-Ok.parts.items ≤ 64 = omega (arith, c.requires.most, ap length c.in-Ok.ensures.named, length-map c.in-Ok.parts.items (λ (part : Part). part.name)) in
    record {
      most = few;
      attached = c.in-Ok.ensures.attached;
      all = rw c.in-Ok.ensures.same c.in-Ok.ensures.parts;
      sum = rw c.as_slice.ensures.value at c.size_of.ensures;
      bytes = c.make.ensures.held _ _;
    }

pub returns-in-Ok-clause-named : goal.returns-in-Ok-clause-named
returns-in-Ok-clause-named g c = slot_names c.in-Ok.parts.items ∙ c.in-Ok.ensures.named

pub returns-in-Ok-clause-count : goal.returns-in-Ok-clause-count
returns-in-Ok-clause-count g c =
    length-map c.in-Ok.parts.items slot_of ∙ sym (length-map c.in-Ok.parts.items (λ (part : Part). part.name)) ∙ ap length c.in-Ok.ensures.named
