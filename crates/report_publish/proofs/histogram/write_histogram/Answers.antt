use Rattle.std.proofs.Common.{◌∙◌, IsTrue, IsSome, ap, sym, subst}
use Rattle.host_disk.specs.Disk.{DiskNature}
use Rattle.feature_file.specs.Files.{file_name_of}
use Rattle.feature_file.specs.FeatureFile.{header_of}
use Rattle.count_histogram.specs.Rules.{file_of}
use Rattle.report_publish.proofs.Puts.{cut_empty}
use Rattle.report_publish.proofs.Histograms.{named, text_stands}
use Rattle.report_publish.proofs.histogram.write_histogram.Goals as goal

pub make-requires : goal.make-requires
make-requires g c = subst (λ number. IsSome (file_name_of number)) (sym c.file.ensures) (named c.args.rule)

pub returns-clause-written : goal.returns-clause-written
returns-clause-written g c = λ is_told.
    let told_cut : IsTrue (g.D.Disk.nature c.cut.new.self).tells =
    subst (λ (n : DiskNature). IsTrue n.tells) (sym c.cut.ensures.same) is_told in
    let told_add : IsTrue (g.D.Disk.nature c.add_rows.new.disk).tells =
    subst (λ (n : DiskNature). IsTrue n.tells) (sym c.add_rows.ensures.same) told_cut in
    let own = c.in_ok-file.ensures.number ∙ c.file.ensures in
    text_stands (g.D.Disk.files c.cut.new.self) (g.D.Disk.files c.add_rows.new.disk) (g.D.Disk.files c.flush.new.disk) (g.D.Disk.files c.sync.new.self)
    c.in_ok-file.file c.add_rows.new.file c.flush.new.self c.args.rule c.as_slice.result.now c.args.items.now
    (cut_empty (g.D.Disk.files c.args.disk.now) (g.D.Disk.files c.cut.new.self) c.in_ok-file.file.number (file_of c.args.rule)
    (c.in_ok-cut.ensures.told is_told) (λ other. absurd (other (sym own))))
    own
    (c.in_ok-file.ensures.piece ∙ ap header_of c.file.ensures)
    (c.in_ok-add_rows.ensures.gathers told_cut)
    (c.flush.ensures.number ∙ c.add_rows.ensures.number ∙ own)
    c.in_ok-flush.ensures.emptied
    (c.in_ok-flush.ensures.gathers told_add)
    c.sync.ensures.files
    (c.as_slice.ensures.value ∙ c.in_ok-rows.ensures)
