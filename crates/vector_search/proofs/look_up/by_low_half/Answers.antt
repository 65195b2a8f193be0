use Rattle.std.proofs.Common.{◌%◌, bit_and}
use Rattle.vector_search.proofs.Halves.{low, low_few, halves_fit, looked_up}
use Rattle.vector_search.proofs.look_up.by_low_half.Goals as goal

pub swizzle : goal.swizzle
swizzle c = halves_fit bit_and 15 (λ a. a % 16) low low_few c.args.table c.args.bytes c.fits-bytes

pub returns : goal.returns
returns c = looked_up bit_and 15 (λ a. a % 16) low low_few c.args.table c.args.bytes c.fits-bytes
