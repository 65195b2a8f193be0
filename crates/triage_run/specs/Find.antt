-- Why the features of an image were not found.
use Rattle.std.specs.Prelude.{ℕ}
use Rattle.byte_kit.specs.Counts.{Rose}
use Rattle.page_split.specs.Pages.{IsPage}
use Rattle.triage_run.specs.declared.find.FindFault.{FindFault}
use Rattle.triage_run.specs.declared.find.FindFault.TheVariants.{Page, NoMemory}

-- a fault comes only at a page of the image, and where the count rose; want of memory is free
abbrev pub IsFindCause : ℕ → ℕ → ℕ → ℕ → FindFault → Type 0
IsFindCause size page before now (Page number) = Rose before now × IsPage size page number
IsFindCause size page before now NoMemory = Unit {0}
