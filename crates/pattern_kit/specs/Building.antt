-- What a kit counts.
use Rattle.std.specs.Prelude.{◌≡◌, ℕ, ◌≤◌, Option, Some, None, Result, OnOk, IfErr}
use Rattle.byte_kit.specs.Counts.{counted}
use Rattle.pattern_kit.specs.declared.kit.KitFault.{KitFault}
use Rattle.pattern_kit.specs.declared.kit.KitFault.TheVariants.{Refused, NoMemory}

-- how many texts were refused, and the index of the last one
pub record Refusals : Type 0 where
  pub count : ℕ
  pub last : Option ℕ

-- none so far
abbrev pub no_refusals : Refusals
no_refusals = record { count = 0; last = None }

-- one more refusal, of this index
abbrev pub refused_at : Refusals → ℕ → Refusals
refused_at before index = record { count = counted before.count; last = Some index }

-- a refusal of the text is counted, and want of memory is none
abbrev pub IsBuildFault : Refusals → Refusals → ℕ → KitFault → Type 0
IsBuildFault before now index Refused = now ≡ refused_at before index
IsBuildFault before now index NoMemory = now ≡ before

-- one build: the count never falls, and a text that is taken leaves the refusals as they were
pub record IsBuild {T : Type 0} (before now : Refusals) (index : ℕ) (result : Result T KitFault) : Type 0 where
  pub later : before.count ≤ now.count
  pub works : OnOk result (now ≡ before)
  pub failed : IfErr result (IsBuildFault before now index)
