use Rattle.std.proofs.Common.{◌≡◌, true}
use Rattle.report_publish.proofs.features.sync_all.Given as goal

-- no file changes
abbrev pub invariant-loop-file : goal.invariant-loop-file
invariant-loop-file g l = record {
  same : g.D.Disk.nature l.disk ≡ g.D.Disk.nature l.fn.disk;
  stays : g.D.Disk.mounted l.disk ≡ true;
  files : g.D.Disk.files l.disk ≡ g.D.Disk.files l.fn.disk;
  faults : g.D.Disk.faults l.disk ≡ g.D.Disk.faults l.fn.disk;
}
