-- The table has the class, by a test of all its 256 entries.
use Rattle.std.proofs.Common.{refl, not, nat_eq}
use Rattle.std.specs.Prelude.{slice_index}
use Rattle.std.proofs.lemmas.Bool.{agree_below_at}
use Rattle.byte_kit.specs.Classes.{url_class}
use Rattle.scan_url.specs.Domain.{authority_class}
use Rattle.scan_url.specs.declared.domain.TheConstants.{AUTHORITY_BYTES}
use Rattle.scan_url.proofs.domain.is_authority.Goals as goal

pub returns : goal.returns
unfolding url_class
returns c = agree_below_at (λ b. not (nat_eq (slice_index AUTHORITY_BYTES b) 0)) authority_class 256 c.args.byte refl c.ranges.byte.fits
