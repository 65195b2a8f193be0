use Rattle.std.proofs.Common.{◌≡◌, None}
use Rattle.host_source.specs.Entries.{held_in, AreApart, PointInside}
use Rattle.host_source.proofs.EntryLemmas.{AreApart-push, PointInside-push, after_push, adds_name, slots_in-push}
use Rattle.host_source.proofs.mem_source.MemSource.add_filled.Goals as goal

pub invariant_of-self : goal.invariant_of-self
invariant_of-self c =
    let self = c.args.self.now in
    let entry = c.in_ok-entry.entry in
    let absent : held_in self.entries.items entry.name ≡ None = rw c.in_ok-entry.ensures.name c.requires.absent in
    let items = c.push.ensures.items in
    record {
      apart = after_push AreApart _ _ _ entry items (AreApart-push _ _ self.apart absent) self.apart;
      inside = after_push (λ es. PointInside es self.places) _ _ _ entry items
          (PointInside-push _ _ _ self.inside) self.inside;
    }

pub returns-clause-added : goal.returns-clause-added
returns-clause-added c =
    let self = c.args.self.now in
    let entry = c.in_ok-entry.entry in
    let absent : held_in self.entries.items entry.name ≡ None = rw c.in_ok-entry.ensures.name c.requires.absent in
    rw (c.in_ok-push.ensures.items, ← c.in_ok-entry.ensures.name, ← c.in_ok-entry.ensures.bytes)
    (adds_name self.entries.items entry absent)

pub returns-clause-slots : goal.returns-clause-slots
returns-clause-slots c =
    let self = c.args.self.now in
    rw c.in_ok-push.ensures.items (slots_in-push self.entries.items self.places _ self.inside)
