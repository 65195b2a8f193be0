-- A write or a cut that failed with nothing done is one of those that a disk may leave.
use Rattle.std.proofs.Common.{◌≡◌, ◌≤◌, ℕ, length, if◌then◌else◌, ◌==◌, refl, arith, ◌∙◌}
use Rattle.std.proofs.lemmas.Bool.Decides.{nat_tests}
use Rattle.std.proofs.lemmas.Grind.{common_steps}
use Rattle.std.proofs.Math.Path.{fun_ext}
use Rattle.byte_kit.specs.Places.{put}
use Rattle.host_disk.specs.Files.{Files, OneTorn, OnePartlyCut}

put_same_at : (files : Files) (file k : ℕ) → files k ≡ (if k == file then files file else files k)
put_same_at files file k = grind (arith, nat_tests)

-- to put what is there changes nothing
pub put_same : (files : Files) (file : ℕ) → files ≡ put files file (files file)
put_same files file = fun_ext (put_same_at files file)

-- a write that changed nothing is a torn one
pub one_torn_not : (file at count : ℕ) (old new : Files) → new ≡ old → OneTorn file at count old new
one_torn_not file at count old new same =
    (old file, record { before = refl; after = refl; no_shorter = omega arith; no_longer = omega arith }, same ∙ put_same old file)

-- a cut that changed nothing is a partial one
pub one_partly_cut_not :
    (file to : ℕ) (old new : Files) → to ≤ length (old file) → new ≡ old → OnePartlyCut file to old new
one_partly_cut_not file to old new within same =
    (old file, record { no_shorter = within; front = grind (arith, common_steps) }, same ∙ put_same old file)
