use Rattle.std.proofs.Common.{◌%◌, ◌/◌, bit_and, get_or}
use Rattle.std.proofs.lemmas.Simd.{zip2_of_maps}
use Rattle.scan_find.proofs.byte_table.ByteTable.buckets_of_each.Goals as goal

pub returns : goal.returns
returns c =
    let table = c.args.self.now in
    zip2_of_maps bit_and (λ byte. get_or table.low (byte % 16) 0) (λ byte. get_or table.high (byte / 16) 0) c.args.bytes c.by_low_half.ensures c.by_high_half.ensures
