use Rattle.std.proofs.Common.{◌≡◌, ◌*◌}
use Rattle.std.specs.Prelude.{map, fold}
use Rattle.std.specs.List.{range_with_len}
use Rattle.byte_kit.specs.Numbers.{be16}
use Rattle.image_gen.specs.Packet.{add_words}
use Rattle.image_gen.proofs.packet.checksum_of.Given as goal

abbrev pub invariant-loop-at : goal.invariant-loop-at
invariant-loop-at l = l.sum ≡ fold add_words 0 (map (λ number. be16 l.header (2 * number)) (range_with_len 0 l.at))
