use Rattle.std.proofs.Common.{◌≢◌, ◌∙◌, ℕ, IsTrue, get_or, subst, sym, ap, arith}
use Rattle.std.proofs.lemmas.List.{get_or_default}
use Rattle.host_disk.specs.Disk.{DiskNature}
use Rattle.report_publish.specs.declared.open_file.OpenFile.{OpenFile}
use Rattle.report_publish.proofs.Apart.{not_number}
use Rattle.report_publish.proofs.Puts.{put_other, cut_empty}
use Rattle.report_publish.proofs.features.cut_all.Goals as goal

pub returns-in_err-cut-clause-others : goal.returns-in_err-cut-clause-others
returns-in_err-cut-clause-others g c = λ is_told file none.
    let inv = c.loop-file.invariant in
    put_other (g.D.Disk.files c.loop-file.disk) (g.D.Disk.files c.cut.new.self) _ file _
    (c.in_err-cut.ensures.torn (subst (λ (n : DiskNature). IsTrue n.tells) (sym inv.same) is_told)).2
    (λ same. not_number c.args.open_files.now file c.loop-file.file-index c.file-item.result none c.loop-file-test.true
    (same ∙ ap (λ (f : OpenFile). f.number) c.file-item.is))
    ∙ inv.others is_told file none

pub loop-file-preserved : goal.loop-file-preserved
loop-file-preserved g c =
    let inv = c.loop-file.invariant in
    let files = g.D.Disk.files c.loop-file.disk in
    let now = g.D.Disk.files c.cut.new.self in
    let open_files = c.args.open_files.now in
    let i = c.loop-file.file-index in
    let tells = (g.D.Disk.nature c.args.disk.now).tells in
    let told : IsTrue tells → IsTrue (g.D.Disk.nature c.loop-file.disk).tells =
    λ is_told. subst (λ (n : DiskNature). IsTrue n.tells) (sym inv.same) is_told in
    record {
      same = c.cut.ensures.same ∙ inv.same;
      stays = c.cut.ensures.stays;
      empty = λ is_told k d from to.
          cut_empty files now _ (get_or open_files k d).number (c.in_ok-cut.ensures.told (told is_told))
          (λ other.
          let apart : k ≢ i = λ at. other (ap (λ (j : ℕ). (get_or open_files j d).number) at
          ∙ ap (λ (f : OpenFile). f.number) (get_or_default open_files i d c.file-item.result c.loop-file-test.true ∙ sym c.file-item.is)) in
          inv.empty is_told k d from (omega arith));
      others = λ is_told file none.
          put_other files now _ file _ (c.in_ok-cut.ensures.told (told is_told))
          (λ same. not_number open_files file i c.file-item.result none c.loop-file-test.true
          (same ∙ ap (λ (f : OpenFile). f.number) c.file-item.is))
          ∙ inv.others is_told file none;
      faults = c.in_ok-cut.ensures.cause.works ∙ inv.faults;
    }
