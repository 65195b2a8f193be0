use Rattle.std.proofs.Common.{◌≡◌, ℕ, [], IsTrue, true, false}
use Rattle.std.specs.List.{AllWithin}
use Rattle.byte_kit.specs.Classes.{is_one_of}
use Rattle.report_publish.specs.declared.open_file.OpenFile.{OpenFile}
use Rattle.report_publish.specs.OpenFile.{numbers}
use Rattle.report_publish.proofs.features.cut_all.Given as goal

-- the files ahead of the index are empty
abbrev pub invariant-loop-file : goal.invariant-loop-file
invariant-loop-file g l = record {
  same : g.D.Disk.nature l.disk ≡ g.D.Disk.nature l.fn.disk;
  stays : g.D.Disk.mounted l.disk ≡ true;
  empty : IsTrue (g.D.Disk.nature l.fn.disk).tells → AllWithin (λ (f : OpenFile). g.D.Disk.files l.disk f.number ≡ []) l.open_files 0 l.file-index;
  others : IsTrue (g.D.Disk.nature l.fn.disk).tells → (file : ℕ) → is_one_of (numbers l.open_files) file ≡ false →
      g.D.Disk.files l.disk file ≡ g.D.Disk.files l.fn.disk file;
  faults : g.D.Disk.faults l.disk ≡ g.D.Disk.faults l.fn.disk;
}
