use Rattle.std.proofs.Common.{ℕ, ◌==◌, not, sym}
use Rattle.std.proofs.lemmas.Simd.{splat_is_map, zip2_of_maps}
use Rattle.std.proofs.lemmas.List.{map-id}
use Rattle.vector_search.proofs.Lanes.{bits_of_bytes}
use Rattle.sbuf_nest.proofs.tests.StarByteClass.strangers.Goals as goal

pub returns : goal.returns
returns c =
    let bytes = c.args.bytes in
    let long = c.fits-bytes.0 in
    bits_of_bytes _ bytes (λ byte. not (byte == 42)) long
    (zip2_of_maps _ (λ (byte : ℕ). byte) (λ _. 42) bytes (sym (map-id bytes)) (splat_is_map bytes 16 42 long))
