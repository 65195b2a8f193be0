use Rattle.std.proofs.Common.{◌≡◌, ℕ, [], IsTrue, true, false, take}
use Rattle.std.specs.List.{All}
use Rattle.byte_kit.specs.Classes.{is_one_of}
use Rattle.report_publish.specs.OpenFile.{numbers, IsPlaced, HasLines}
use Rattle.report_publish.proofs.lines.add_lines.Given as goal

-- the files have the lines of the features ahead of the index
abbrev pub invariant-loop-item : goal.invariant-loop-item
invariant-loop-item g l = record {
  same : g.D.Disk.nature l.disk ≡ g.D.Disk.nature l.fn.disk;
  stays : g.D.Disk.mounted l.disk ≡ true;
  named : numbers l.open_files ≡ numbers l.fn.open_files;
  placed : All (IsPlaced (g.D.Disk.nature l.fn.disk).tells (g.D.Disk.files l.disk)) l.open_files;
  done : IsTrue (g.D.Disk.nature l.fn.disk).tells → All (HasLines (g.D.Disk.files l.fn.disk) []) l.fn.open_files →
      All (HasLines (g.D.Disk.files l.disk) (take l.item-index l.items)) l.open_files;
  others : IsTrue (g.D.Disk.nature l.fn.disk).tells → (file : ℕ) → is_one_of (numbers l.fn.open_files) file ≡ false →
      g.D.Disk.files l.disk file ≡ g.D.Disk.files l.fn.disk file;
  faults : g.D.Disk.faults l.disk ≡ g.D.Disk.faults l.fn.disk;
}
