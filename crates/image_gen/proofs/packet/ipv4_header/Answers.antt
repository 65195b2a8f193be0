use Rattle.std.proofs.Common.{◌≡◌, ◌/◌, ◌%◌, refl, arith}
use Rattle.image_gen.proofs.packet.ipv4_header.Goals as goal

pub returns : goal.returns
returns c =
    let sum = c.checksum_of.ensures in
    let high : c.checksum_of.result / 256 % 256 ≡ c.checksum_of.result / 256 = omega (arith, c.checksum_of.type_inv) in
    rw (c.to_be_bytes.ensures, high, sum) refl
