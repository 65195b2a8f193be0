use Rattle.std.proofs.Common.{◌%◌, ◌/◌, arith}
use Rattle.scan_find.proofs.Buckets.{kept_in_each, added_to_each}
use Rattle.scan_find.proofs.byte_table.ByteTable.let_any.Goals as goal

pub returns-clause-kept : goal.returns-clause-kept
returns-clause-kept c = λ byte bucket passes.
    let table = c.args.self.now in record {
      low = kept_in_each table.low table.low_long _ (byte % 16) bucket passes.low;
      high = kept_in_each table.high table.high_long _ (byte / 16) bucket passes.high;
    }

pub returns-clause-added : goal.returns-clause-added
returns-clause-added c = λ byte small.
    let table = c.args.self.now in record {
      low = added_to_each table.low table.low_long (byte % 16) c.args.bucket (omega arith) c.requires;
      high = added_to_each table.high table.high_long (byte / 16) c.args.bucket (omega arith) c.requires;
    }
