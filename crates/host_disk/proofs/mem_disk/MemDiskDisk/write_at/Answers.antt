use Rattle.std.proofs.Common.{length, ap, ◌∙◌}
use Rattle.std.proofs.lemmas.Result.{err_from_is_err_and}
use Rattle.host_disk.specs.Contents.{contents}
use Rattle.host_disk.specs.MemDisk.{mem_files}
use Rattle.host_disk.proofs.NotDone.{one_torn_not}
use Rattle.host_disk.proofs.mem_disk.MemDiskDisk.write_at.Goals as goal

pub returns-in_err-write_at-clause-torn : goal.returns-in_err-write_at-clause-torn
returns-in_err-write_at-clause-torn c =
    let gives = c.from_residual-in_err-write_at in
    let err = err_from_is_err_and gives.result gives.ensures.1 in
    rw err.1 (one_torn_not c.args.file c.args.at (length c.args.bytes.now)
    (mem_files c.args.self.now) (contents c.write_at.new.self)
    (c.in_err-write_at.ensures.same ∙ ap mem_files c.begin.ensures.rest))
