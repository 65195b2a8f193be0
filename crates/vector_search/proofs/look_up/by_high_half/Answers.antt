use Rattle.std.proofs.Common.{◌/◌}
use Rattle.vector_search.proofs.Halves.{shifted, high, high_few, halves_fit, looked_up}
use Rattle.vector_search.proofs.look_up.by_high_half.Goals as goal

pub swizzle : goal.swizzle
swizzle c = halves_fit shifted 4 (λ a. a / 16) high high_few c.args.table c.args.bytes c.fits-bytes

pub returns : goal.returns
returns c = looked_up shifted 4 (λ a. a / 16) high high_few c.args.table c.args.bytes c.fits-bytes
