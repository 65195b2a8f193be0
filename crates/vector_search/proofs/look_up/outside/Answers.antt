use Rattle.std.proofs.Common.{ℕ, ◌/◌, ◌%◌, bit_and}
use Rattle.std.specs.Prelude.{slice_index}
use Rattle.std.proofs.lemmas.Simd.{splat_is_map, zip2_of_maps}
use Rattle.vector_search.specs.Classes.{is_outside}
use Rattle.vector_search.proofs.Lanes.{bits_of_bytes}
use Rattle.vector_search.proofs.look_up.outside.Goals as goal

pub returns : goal.returns
returns c =
    let bytes = c.args.bytes in
    let long = c.fits-bytes.0 in
    let column : ℕ → ℕ = λ byte. slice_index c.args.columns (byte / 16) in
    let row : ℕ → ℕ = λ byte. slice_index c.args.rows (byte % 16) in
    bits_of_bytes _ bytes (is_outside c.args.columns c.args.rows) long
    (zip2_of_maps _ (λ byte. bit_and (column byte) (row byte)) (λ _. 0) bytes
    (zip2_of_maps bit_and column row bytes c.by_high_half.ensures c.by_low_half.ensures)
    (splat_is_map bytes 16 0 long))
