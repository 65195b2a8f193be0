use Rattle.std.proofs.Common.{◌≡◌, ◌+◌, ◌∙◌, IsTrue, [], ◌∷◌, ◌++◌, length, subst, sym, arith, length-set}
use Rattle.std.proofs.Math.Seq.{map-set_same}
use Rattle.host_disk.specs.Disk.{DiskNature}
use Rattle.report_publish.specs.declared.open_file.OpenFile.{OpenFile}
use Rattle.report_publish.specs.OpenFile.{IsPlaced, HasLines}
use Rattle.report_publish.proofs.Apart.{not_number}
use Rattle.report_publish.proofs.Steps.{OneWritten, named, other, step, still_placed, has_lines}
use Rattle.report_publish.proofs.lines.add_line.Goals as goal

pub loop-file-preserved : goal.loop-file-preserved
loop-file-preserved g c =
    let inv = c.loop-file.invariant in
    let i = c.loop-file.file-index in
    let tells = (g.D.Disk.nature c.args.disk.now).tells in
    let before = g.D.Disk.files c.loop-file.disk in
    let now = g.D.Disk.files c.add.new.disk in
    let told : IsTrue tells → IsTrue (g.D.Disk.nature c.loop-file.disk).tells =
    λ is_told. subst (λ (n : DiskNature). IsTrue n.tells) (sym inv.same) is_told in
    let w : OneWritten tells before now c.loop-file.open_files i c.file-item.result c.add.new.self = record {
      apart = rw inv.named c.requires.apart;
      within = omega arith;
      same = c.add.ensures.number;
      others = λ is_told. c.add.ensures.others (told is_told);
    } in
    let long : length c.loop-file.open_files ≡ length c.args.open_files.now = c.loop-file.auto.open_files in
    record {
      same = c.add.ensures.same ∙ inv.same;
      stays = c.add.ensures.stays;
      named = named w ∙ inv.named;
      placed = still_placed w inv.placed (subst (λ (n : DiskNature). IsPlaced n.tells now c.add.new.self) inv.same c.in_ok-add.ensures.placed);
      done = λ is_told list has.
          let P : OpenFile → Type 0 = HasLines before (list ++ c.args.item.now ∷ []) in
          let Q : OpenFile → Type 0 = HasLines now (list ++ c.args.item.now ∷ []) in
          step w P Q (has_lines w is_told (list ++ c.args.item.now ∷ [])) 0 (i + 1) (omega arith)
          (λ k d from to not_i. inv.done is_told list has k d from (omega arith))
          (λ _ _. c.in_ok-add.ensures.lines (told is_told) list (inv.left is_told list has i c.file-item.result (omega arith) (omega arith)));
      left = λ is_told list has k d from to.
          step w (HasLines before list) (HasLines now list) (has_lines w is_told list) (i + 1) (length c.loop-file.open_files) (omega arith)
          (λ k d from to not_i. inv.left is_told list has k d (omega arith) to)
          (λ from. absurd (omega arith)) k d from (omega (arith, length-set c.loop-file.open_files i c.add.new.self));
      others = λ is_told file none.
          c.add.ensures.others (told is_told) file (other w file (rw inv.named none)) ∙ inv.others is_told file none;
      faults = c.in_ok-add.ensures.cause.works ∙ inv.faults;
    }

pub returns-in_err-add-clause-numbers : goal.returns-in_err-add-clause-numbers
returns-in_err-add-clause-numbers g c =
    map-set_same (λ (f : OpenFile). f.number) c.loop-file.open_files c.loop-file.file-index c.add.new.self c.file-item.result c.add.ensures.number
    ∙ c.loop-file.invariant.named

pub returns-in_err-add-clause-others : goal.returns-in_err-add-clause-others
returns-in_err-add-clause-others g c = λ is_told file none.
    let inv = c.loop-file.invariant in
    c.add.ensures.others (subst (λ (n : DiskNature). IsTrue n.tells) (sym inv.same) is_told) file
    (not_number c.loop-file.open_files file c.loop-file.file-index c.file-item.result (rw inv.named none) (omega arith))
    ∙ inv.others is_told file none
