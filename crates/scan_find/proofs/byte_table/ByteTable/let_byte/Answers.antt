use Rattle.std.proofs.Common.{◌≡◌, ◌*◌, ◌%◌, ◌/◌, ◌^◌, bit_and, bit_or, get_or, set, subst, sym, arith}
use Rattle.std.proofs.lemmas.Nat.{and_mask}
use Rattle.scan_find.proofs.Buckets.{HasBit, kept_in_one, added_to_one}
use Rattle.scan_find.proofs.byte_table.ByteTable.let_byte.Goals as goal

pub returns-clause-kept : goal.returns-clause-kept
returns-clause-kept c = λ byte bucket passes.
    let table = c.args.self.now in record {
      low = kept_in_one table.low _ _ (byte % 16) bucket passes.low;
      high = kept_in_one table.high _ _ (byte / 16) bucket passes.high;
    }

pub returns-clause-added : goal.returns-clause-added
returns-clause-added c =
    let table = c.args.self.now in
    let byte = c.args.byte in
    let half : bit_and byte 15 ≡ byte % 16 = and_mask byte 4 in record {
      low = subst (λ k. HasBit (set table.low k (bit_or (get_or table.low k 0) (1 * 2 ^ c.args.bucket % 2 ^ 8))) (byte % 16) c.args.bucket) (sym half)
          (added_to_one table.low (byte % 16) c.args.bucket (omega (arith, table.low_long)) c.requires);
      high = added_to_one table.high (byte / 16) c.args.bucket (omega (arith, table.high_long, c.ranges.byte.fits)) c.requires;
    }
