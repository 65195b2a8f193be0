use Rattle.std.proofs.Common.{◌∙◌, IsTrue, sym, subst}
use Rattle.std.proofs.lemmas.Result.{on_ok_weaker}
use Rattle.host_disk.specs.Disk.{DiskNature}
use Rattle.report_publish.proofs.Report.{neither, whole}
use Rattle.report_publish.proofs.publish.publish_items.Goals as goal

pub returns-in_err-write_features-clause-others : goal.returns-in_err-write_features-clause-others
returns-in_err-write_features-clause-others g c = λ is_told file none. c.write_features.ensures.others is_told file (neither c.args.scanners file none).0

pub returns-clause-written : goal.returns-clause-written
returns-clause-written g c = λ is_told.
    let told : IsTrue (g.D.Disk.nature c.write_features.new.disk).tells =
    subst (λ (n : DiskNature). IsTrue n.tells) (sym c.write_features.ensures.same) is_told in
    on_ok_weaker c.write_histograms.result
    (λ histograms. whole c.args.scanners c.args.items.now (g.D.Disk.files c.write_features.new.disk) (g.D.Disk.files c.write_histograms.new.disk)
    (c.in_ok-write_features.ensures.written is_told) histograms (c.write_histograms.ensures.others told))
    (c.write_histograms.ensures.written told)

pub returns-clause-others : goal.returns-clause-others
returns-clause-others g c = λ is_told file none.
    let told : IsTrue (g.D.Disk.nature c.write_features.new.disk).tells =
    subst (λ (n : DiskNature). IsTrue n.tells) (sym c.write_features.ensures.same) is_told in
    let parts = neither c.args.scanners file none in
    c.write_histograms.ensures.others told file parts.1 ∙ c.write_features.ensures.others is_told file parts.0
