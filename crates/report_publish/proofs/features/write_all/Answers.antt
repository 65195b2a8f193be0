use Rattle.std.proofs.Common.{◌∙◌, IsTrue, sym, subst}
use Rattle.host_disk.specs.Disk.{DiskNature}
use Rattle.report_publish.specs.OpenFile.{numbers}
use Rattle.report_publish.proofs.Whole.{begun, texts_stand}
use Rattle.report_publish.proofs.features.write_all.Goals as goal

pub returns-clause-written : goal.returns-clause-written
returns-clause-written g c = λ is_told.
    let told_cut : IsTrue (g.D.Disk.nature c.cut_all.new.disk).tells =
    subst (λ (n : DiskNature). IsTrue n.tells) (sym c.cut_all.ensures.same) is_told in
    let told_add : IsTrue (g.D.Disk.nature c.add_lines.new.disk).tells =
    subst (λ (n : DiskNature). IsTrue n.tells) (sym c.add_lines.ensures.same) told_cut in
    texts_stand c.sync_all.result c.args.items.now (g.D.Disk.files c.flush_all.new.disk) (g.D.Disk.files c.sync_all.new.disk)
    c.flush_all.new.open_files (numbers c.args.open_files.now) c.sync_all.ensures.files
    (c.flush_all.ensures.numbers ∙ c.add_lines.ensures.numbers) c.in_ok-flush_all.ensures.emptied
    (c.in_ok-flush_all.ensures.lines told_add c.args.items.now
    (c.in_ok-add_lines.ensures.lines told_cut
    (begun (g.D.Disk.files c.cut_all.new.disk) c.args.open_files.now c.requires.fresh (c.in_ok-cut_all.ensures.empty is_told))))
