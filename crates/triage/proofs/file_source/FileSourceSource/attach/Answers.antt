use Rattle.std.proofs.Common.{arith}
use Rattle.triage.proofs.Slots.{slots_of-add}
use Rattle.triage.proofs.file_source.FileSourceSource.attach.Goals as goal

pub returns-clause-ok : goal.returns-clause-ok
returns-clause-ok g c = record {
  small = omega arith;
  attached = rw (c.in-Ok-push.ensures.items, ← c.in-Ok-copy.ensures) (slots_of-add c.args.self.now.parts.items _ c.requires.free);
  there = tt;
  told = tt;
}
