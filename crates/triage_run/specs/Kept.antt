-- What a call leaves as it was.
use Rattle.std.specs.Prelude.{◌≡◌, ℕ, ◌≤◌, Bool, List, [], Option, Some, None, false, IsTrue}
use Rattle.host_source.specs.Source.{SourceNature}
use Rattle.host_source.specs.Sink.{Takes}
use Rattle.host_disk.specs.Files.{Files}
use Rattle.host_disk.specs.Disk.{DiskNature}
use Rattle.pattern_kit.specs.Building.{Refusals}
use Rattle.byte_kit.specs.Classes.{is_one_of}
use Rattle.report_publish.specs.Publish.{files_for}
use Rattle.triage_run.specs.declared.words.Scan.{Scan}

-- a source tells what it told, and its count of faults is no lower
pub record KeepsSource {S : Type 0} (nature : S → SourceNature) (faults : S → ℕ) (old new : S) : Type 0 where
  pub same : nature new ≡ nature old
  pub later : faults old ≤ faults new

-- a disk is of the same kind, and its count of faults is no lower
pub record KeepsDisk {D : Type 0} (nature : D → DiskNature) (faults : D → ℕ) (old new : D) : Type 0 where
  pub same : nature new ≡ nature old
  pub later : faults old ≤ faults new

-- a kit may be asked for what it might be asked for, and its count of refusals is no lower
pub record KeepsKit {K : Type 0} (may_build : K → ℕ → List ℕ → Bool) (refusals : K → Refusals) (old new : K) : Type 0 where
  pub same : may_build new ≡ may_build old
  pub later : (refusals old).count ≤ (refusals new).count

-- a sink has what it had with something put behind it, as far as it tells that, and its count of faults is no lower
pub record KeepsSink {O : Type 0} (taken : O → Option (List ℕ)) (faults : O → ℕ) (old new : O) : Type 0 where
  pub behind : (bytes : List ℕ) × Takes (taken old) (taken new) bytes
  pub later : faults old ≤ faults new

-- the files that a scan writes
abbrev pub files_of : Option Scan → List ℕ
files_of (Some scan) = files_for scan.search.plan.scanners
files_of None = []

-- no file differs but these, as far as the disk tells its files
abbrev pub KeepsOthers : List ℕ → DiskNature → Files → Files → Type 0
KeepsOthers numbers nature old new = IsTrue nature.tells → (file : ℕ) → is_one_of numbers file ≡ false → new file ≡ old file
