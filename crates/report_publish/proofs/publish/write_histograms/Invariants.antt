use Rattle.std.proofs.Common.{◌≡◌, ℕ, IsTrue, true, false}
use Rattle.std.specs.List.{AllWithin}
use Rattle.byte_kit.specs.Classes.{is_one_of}
use Rattle.report_publish.specs.declared.publish.TheConstants.{HISTOGRAMS}
use Rattle.report_publish.specs.Publish.{histograms_for}
use Rattle.report_publish.proofs.Histograms.{IsDone}
use Rattle.report_publish.proofs.publish.write_histograms.Given as goal

-- those of the histograms ahead of the index that are written have their texts
abbrev pub invariant-loop-rule : goal.invariant-loop-rule
invariant-loop-rule g l = record {
  same : g.D.Disk.nature l.disk ≡ g.D.Disk.nature l.fn.disk;
  stays : g.D.Disk.mounted l.disk ≡ true;
  done : IsTrue (g.D.Disk.nature l.fn.disk).tells → AllWithin (IsDone l.scanners l.items (g.D.Disk.files l.disk)) HISTOGRAMS 0 l.rule-index;
  others : IsTrue (g.D.Disk.nature l.fn.disk).tells → (file : ℕ) → is_one_of (histograms_for l.scanners) file ≡ false →
      g.D.Disk.files l.disk file ≡ g.D.Disk.files l.fn.disk file;
  faults : g.D.Disk.faults l.disk ≡ g.D.Disk.faults l.fn.disk;
}
