use Rattle.std.proofs.Common.{length}
use Rattle.std.proofs.lemmas.Result.{err_from_is_err_and}
use Rattle.host_disk.specs.Contents.{contents}
use Rattle.host_disk.proofs.NotDone.{one_torn_not}
use Rattle.host_disk.proofs.sure_disk.SureDiskDisk.write_at.Goals as goal

pub returns-in_err-write_at-clause-torn : goal.returns-in_err-write_at-clause-torn
returns-in_err-write_at-clause-torn c =
    let err = err_from_is_err_and c.from_residual.result c.from_residual.ensures.1 in
    rw err.1 (one_torn_not c.args.file c.args.at (length c.args.bytes.now)
    (contents c.args.self.now.medium) (contents c.write_at.new.self) c.in_err-write_at.ensures.same)
