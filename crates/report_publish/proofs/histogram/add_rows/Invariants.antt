use Rattle.std.proofs.Common.{◌≡◌, ◌≢◌, ◌++◌, ℕ, IsTrue, true, take}
use Rattle.report_publish.specs.OpenFile.{IsPlaced, gathered}
use Rattle.report_publish.specs.RowLines.{rows_text}
use Rattle.report_publish.proofs.histogram.add_rows.Given as goal

-- the file has gained the lines of the rows ahead of the index
abbrev pub invariant-loop-row : goal.invariant-loop-row
invariant-loop-row g l = record {
  same : g.D.Disk.nature l.disk ≡ g.D.Disk.nature l.fn.disk;
  stays : g.D.Disk.mounted l.disk ≡ true;
  number : l.file.number ≡ l.fn.file.number;
  placed : IsPlaced (g.D.Disk.nature l.fn.disk).tells (g.D.Disk.files l.disk) l.file;
  gathers : IsTrue (g.D.Disk.nature l.fn.disk).tells →
      gathered (g.D.Disk.files l.disk) l.file ≡ gathered (g.D.Disk.files l.fn.disk) l.fn.file ++ rows_text (take l.row-index l.rows);
  others : IsTrue (g.D.Disk.nature l.fn.disk).tells → (other : ℕ) → other ≢ l.fn.file.number →
      g.D.Disk.files l.disk other ≡ g.D.Disk.files l.fn.disk other;
  faults : g.D.Disk.faults l.disk ≡ g.D.Disk.faults l.fn.disk;
}
