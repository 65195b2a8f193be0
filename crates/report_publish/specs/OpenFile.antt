-- A report file while it is written: its first bytes stand on the disk, and the next ones in its piece.
use Rattle.std.specs.Prelude.{◌≡◌, ℕ, ◌^◌, ◌<◌, Bool, IsTrue, List, [], ◌∷◌, ◌++◌, length, map}
use Rattle.std.specs.List.{All, AllByRecursion}
use Rattle.forensic_path.specs.declared.feature.Classed.{Classed}
use Rattle.host_disk.specs.Files.{Files}
use Rattle.feature_file.specs.FeatureFile.{header_of, file_text}
use Rattle.report_publish.specs.declared.open_file.OpenFile.{OpenFile}

-- the numbers of the files
abbrev pub numbers : List OpenFile → List ℕ
numbers open_files = map (λ (f : OpenFile). f.number) open_files

-- the file is one of the disk's, and has so many bytes on a disk that tells its files
pub record IsPlaced (tells : Bool) (files : Files) (f : OpenFile) : Type 0 where
  pub number : f.number < 64
  pub bound : f.written < 2 ^ 62
  pub place : IsTrue tells → f.written ≡ length (files f.number)

-- what stands on the disk, and then what stands in the piece
abbrev pub gathered : Files → OpenFile → List ℕ
gathered files f = files f.number ++ f.piece.items

-- that is the file's text for the list
abbrev pub HasLines : Files → List Classed → OpenFile → Type 0
HasLines files list f = gathered files f ≡ file_text f.number list

-- where a file had its text for a list, it has its text for the list with this feature behind
abbrev pub GainsLine : Files → Files → Classed → OpenFile → OpenFile → Type 0
GainsLine before now item old new = (list : List Classed) → HasLines before list old → HasLines now (list ++ item ∷ []) new

-- where all files had their texts for a list, they have those for the list with this feature behind
abbrev pub EachGainsLine : Files → Files → Classed → List OpenFile → List OpenFile → Type 0
EachGainsLine before now item old new =
    (list : List Classed) → All (HasLines before list) old → All (HasLines now (list ++ item ∷ [])) new

-- where all files had their texts for a list, they have them still
abbrev pub EachKeepsLines : Files → Files → List OpenFile → List OpenFile → Type 0
EachKeepsLines before now old new = (list : List Classed) → All (HasLines before list) old → All (HasLines now list) new

-- each of the files with these numbers has the text of a feature file for the list
abbrev pub AreFeatureFiles : List ℕ → List Classed → Files → Type 0
AreFeatureFiles numbers list files = AllByRecursion (λ file. files file ≡ file_text file list) numbers

-- nothing of the file stands on the disk yet, and its header in the piece
pub record IsFresh (f : OpenFile) : Type 0 where
  pub number : f.number < 64
  pub written : f.written ≡ 0
  pub piece : f.piece.items ≡ header_of f.number
