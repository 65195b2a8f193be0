use Rattle.std.proofs.Common.{◌≡◌, ℕ, List, [], IsTrue, true, false}
use Rattle.std.specs.List.{All, AllWithin}
use Rattle.byte_kit.specs.Classes.{is_one_of}
use Rattle.forensic_path.specs.declared.feature.Classed.{Classed}
use Rattle.report_publish.specs.declared.open_file.OpenFile.{OpenFile}
use Rattle.report_publish.specs.OpenFile.{numbers, IsPlaced, HasLines}
use Rattle.report_publish.proofs.features.flush_all.Given as goal

-- the pieces ahead of the index are written
abbrev pub invariant-loop-file : goal.invariant-loop-file
invariant-loop-file g l = record {
  same : g.D.Disk.nature l.disk ≡ g.D.Disk.nature l.fn.disk;
  stays : g.D.Disk.mounted l.disk ≡ true;
  named : numbers l.open_files ≡ numbers l.fn.open_files;
  placed : All (IsPlaced (g.D.Disk.nature l.fn.disk).tells (g.D.Disk.files l.disk)) l.open_files;
  emptied : AllWithin (λ (f : OpenFile). f.piece.items ≡ []) l.open_files 0 l.file-index;
  done : IsTrue (g.D.Disk.nature l.fn.disk).tells → (list : List Classed) → All (HasLines (g.D.Disk.files l.fn.disk) list) l.fn.open_files →
      All (HasLines (g.D.Disk.files l.disk) list) l.open_files;
  others : IsTrue (g.D.Disk.nature l.fn.disk).tells → (file : ℕ) → is_one_of (numbers l.fn.open_files) file ≡ false →
      g.D.Disk.files l.disk file ≡ g.D.Disk.files l.fn.disk file;
  faults : g.D.Disk.faults l.disk ≡ g.D.Disk.faults l.fn.disk;
}
