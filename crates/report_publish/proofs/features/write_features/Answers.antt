use Rattle.std.proofs.Common.{◌∙◌, ap}
use Rattle.std.proofs.lemmas.Result.{on_ok_weaker}
use Rattle.report_publish.proofs.Report.{feature_texts}
use Rattle.report_publish.specs.OpenFile.{numbers}
use Rattle.report_publish.proofs.features.write_features.Goals as goal

pub returns-clause-written : goal.returns-clause-written
returns-clause-written g c = λ is_told.
    on_ok_weaker c.write_all.result
    (feature_texts c.args.scanners c.args.items.now (g.D.Disk.files c.write_all.new.disk) (numbers c.as_mut_slice.result.now)
    (ap numbers c.as_mut_slice.ensures.value ∙ c.in_ok-open_files.ensures.numbers))
    (c.write_all.ensures.written is_told)
