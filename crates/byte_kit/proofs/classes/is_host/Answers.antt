-- The table has the class, by a test of all its 256 entries.
use Rattle.std.proofs.Common.{refl, not, nat_eq}
use Rattle.std.specs.Prelude.{slice_index}
use Rattle.std.proofs.lemmas.Bool.{agree_below_at}
use Rattle.byte_kit.specs.Classes.{host_class}
use Rattle.byte_kit.specs.declared.classes.TheConstants.{HOST_BYTES}
use Rattle.byte_kit.proofs.classes.is_host.Goals as goal

pub returns : goal.returns
unfolding host_class
returns c = agree_below_at (λ b. not (nat_eq (slice_index HOST_BYTES b) 0)) host_class 256 c.args.byte refl c.ranges.byte.fits
