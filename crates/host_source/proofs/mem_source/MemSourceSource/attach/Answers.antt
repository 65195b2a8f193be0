use Rattle.std.proofs.Common.{◌<◌, length, rules, refl, sym, inl, inr}
use Rattle.host_source.proofs.EntryLemmas.{absent_without_place, attaches}
use Rattle.host_source.proofs.mem_source.MemSourceSource.attach.Goals as goal

pub returns-in_default-clause-failed : goal.returns-in_default-clause-failed
returns-in_default-clause-failed c =
    let none = rw c.deref.ensures.value at c.in_default.ensures in
    (λ failed. inr (absent_without_place c.args.self.now.entries.items c.args.name.now (sym none)), λ cause. refl)

pub returns-clause-ok : goal.returns-clause-ok
returns-clause-ok c =
    let below : c.args.slot < length c.args.self.now.places = search rules in
    let found = rw c.deref.ensures.value at c.in-Some.ensures in
    let entry = c.index.result.now in
    rw c.size.ensures
    (attaches _ _ c.args.slot c.in-Some.place c.args.name.now entry below (sym found) c.index.ensures)

pub returns-clause-failed : goal.returns-clause-failed
returns-clause-failed c =
    let below : c.args.slot < length c.args.self.now.places = search rules in
    let found = rw c.deref.ensures.value at c.in-Some.ensures in
    let attached = attaches c.args.self.now.entries.items c.args.self.now.places c.args.slot c.in-Some.place
    c.args.name.now c.index.result.now below (sym found) c.index.ensures in (
      λ worked. cc,
      λ cause. elim cause [
        | inl due ↦ c.in_ok-begin.ensures.failed.1 due
        | inr none ↦ rw none at attached.there
      ],
    )
