-- The table has the class, by a test of all its 256 entries.
use Rattle.std.proofs.Common.{refl, not, nat_eq}
use Rattle.std.specs.Prelude.{slice_index}
use Rattle.std.proofs.lemmas.Bool.{agree_below_at}
use Rattle.byte_kit.specs.Classes.{hex_class}
use Rattle.byte_kit.specs.declared.classes.TheConstants.{HEX_DIGITS}
use Rattle.byte_kit.proofs.classes.is_hex.Goals as goal

pub returns : goal.returns
unfolding hex_class
returns c = agree_below_at (λ b. not (nat_eq (slice_index HEX_DIGITS b) 0)) hex_class 256 c.args.byte refl c.ranges.byte.fits
