-- The files of a disk, 0 to 63, by what a read gives of them, and what a call does to one.
use Rattle.std.specs.Prelude.{◌≡◌, ℕ, ◌+◌, ◌≤◌, List, ◌++◌, length, take, drop, max}
use Rattle.byte_kit.specs.Places.{put}

-- the bytes of each file; a file that isn't there has none
abbrev pub Files : Type 0
Files = ℕ → List ℕ

-- the bytes written over what stands from the place on, and past its end
abbrev pub written : ℕ → List ℕ → List ℕ → List ℕ
written at bytes old = take at old ++ bytes ++ drop (at + length bytes) old

-- a write that failed: any bytes in its range, and a length between that of before and that of the write done
pub record Torn (at count : ℕ) (old new : List ℕ) : Type 0 where
  pub before : take at new ≡ take at old
  pub after : drop (at + count) new ≡ drop (at + count) old
  pub no_shorter : length old ≤ length new
  pub no_longer : length new ≤ max (length old) (at + count)

-- a cut that failed: a front of the file, no shorter than the cut done
pub record PartlyCut (to : ℕ) (old new : List ℕ) : Type 0 where
  pub no_shorter : to ≤ length new
  pub front : take (length new) old ≡ new

-- a write to this file failed, and the other files are as before
abbrev pub OneTorn : ℕ → ℕ → ℕ → Files → Files → Type 0
OneTorn file at count old new = (content : List ℕ) × (Torn at count (old file) content) × (new ≡ put old file content)

-- a cut of this file failed, and the other files are as before
abbrev pub OnePartlyCut : ℕ → ℕ → Files → Files → Type 0
OnePartlyCut file to old new = (content : List ℕ) × (PartlyCut to (old file) content) × (new ≡ put old file content)
