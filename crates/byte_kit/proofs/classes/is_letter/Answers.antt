-- The table has the class, by a test of all its 256 entries.
use Rattle.std.proofs.Common.{refl, not, nat_eq}
use Rattle.std.specs.Prelude.{slice_index}
use Rattle.std.proofs.lemmas.Bool.{agree_below_at}
use Rattle.byte_kit.specs.Classes.{letter_class}
use Rattle.byte_kit.specs.declared.classes.TheConstants.{LETTERS}
use Rattle.byte_kit.proofs.classes.is_letter.Goals as goal

pub returns : goal.returns
unfolding letter_class
returns c = agree_below_at (λ b. not (nat_eq (slice_index LETTERS b) 0)) letter_class 256 c.args.byte refl c.ranges.byte.fits
