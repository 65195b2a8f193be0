-- Why parts are not attached, or bytes of them not lent.
use Rattle.std.specs.Prelude.{◌≡◌, ℕ, ◌≤◌, Result, OnOk, IfErr}
use Rattle.byte_kit.specs.Counts.{counted}
use Rattle.image_source.specs.declared.fault.PartsFault.{PartsFault}
use Rattle.image_source.specs.declared.fault.PartsFault.TheVariants.{Read, NoMemory}

-- `Read` raises the source's count of faults by one, and want of memory leaves it
abbrev pub IsFaultOf : ℕ → ℕ → PartsFault → Type 0
IsFaultOf before now Read = now ≡ counted before
IsFaultOf before now NoMemory = now ≡ before

-- one call: the count stays where it works, and each fault is one of this call
pub record IsPartsCall {T : Type 0} (before now : ℕ) (result : Result T PartsFault) : Type 0 where
  pub later : before ≤ now
  pub works : OnOk result (now ≡ before)
  pub failed : IfErr result (IsFaultOf before now)
