-- A sink: bytes that are put one behind the other, and a count of faults.
use Rattle.std.specs.Prelude.{◌≡◌, ℕ, ◌++◌, ◌≤◌, List, take, Option, option_map, Result, OnOk, IfErr}
use Rattle.byte_kit.specs.Counts.{counted}
use Rattle.host_source.specs.declared.sink.SinkFault.{SinkFault}
use Rattle.host_source.specs.declared.sink.SinkFault.TheVariants.{Failed, NoMemory}

-- just these bytes were put, as far as the sink tells what was put
abbrev pub Takes : Option (List ℕ) → Option (List ℕ) → List ℕ → Type 0
Takes old new bytes = new ≡ option_map (λ taken. taken ++ bytes) old

-- a front of these bytes was put, and nothing else
abbrev pub TakesFront : Option (List ℕ) → Option (List ℕ) → List ℕ → Type 0
TakesFront old new bytes = (count : ℕ) × Takes old new (take count bytes)

-- what a put that was refused leaves: a front of its bytes where the sink failed, and nothing for want of memory
abbrev pub LeavesOf : Option (List ℕ) → Option (List ℕ) → List ℕ → SinkFault → Type 0
LeavesOf old new bytes Failed = TakesFront old new bytes
LeavesOf old new bytes NoMemory = new ≡ old

-- `Failed` raises the count by one, and want of memory leaves it
abbrev pub IsFaultOf : ℕ → ℕ → SinkFault → Type 0
IsFaultOf before now Failed = now ≡ counted before
IsFaultOf before now NoMemory = now ≡ before

-- one put: the count stays where it works, and each fault is one of this put
pub record IsSinkCall {T : Type 0} (before now : ℕ) (result : Result T SinkFault) : Type 0 where
  pub later : before ≤ now
  pub works : OnOk result (now ≡ before)
  pub failed : IfErr result (IsFaultOf before now)
