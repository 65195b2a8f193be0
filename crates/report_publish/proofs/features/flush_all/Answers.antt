use Rattle.std.proofs.Common.{◌≡◌, ◌+◌, ◌∙◌, ℕ, IsTrue, [], length, subst, sym, ap, arith}
use Rattle.std.proofs.Math.Seq.{map-set_same}
use Rattle.host_disk.specs.Disk.{DiskNature}
use Rattle.feature_file.specs.FeatureFile.{file_text}
use Rattle.report_publish.specs.declared.open_file.OpenFile.{OpenFile}
use Rattle.report_publish.specs.OpenFile.{IsPlaced, HasLines}
use Rattle.report_publish.proofs.Apart.{not_number}
use Rattle.report_publish.proofs.Steps.{OneWritten, named, other, step, all_step, still_placed, has_lines}
use Rattle.report_publish.proofs.features.flush_all.Goals as goal

pub loop-file-preserved : goal.loop-file-preserved
loop-file-preserved g c =
    let inv = c.loop-file.invariant in
    let i = c.loop-file.file-index in
    let tells = (g.D.Disk.nature c.args.disk.now).tells in
    let before = g.D.Disk.files c.loop-file.disk in
    let now = g.D.Disk.files c.flush.new.disk in
    let told : IsTrue tells → IsTrue (g.D.Disk.nature c.loop-file.disk).tells =
    λ is_told. subst (λ (n : DiskNature). IsTrue n.tells) (sym inv.same) is_told in
    let w : OneWritten tells before now c.loop-file.open_files i c.file-item.result c.flush.new.self = record {
      apart = rw inv.named c.requires.apart;
      within = omega arith;
      same = c.flush.ensures.number;
      others = λ is_told. c.flush.ensures.others (told is_told);
    } in
    let long : length c.loop-file.open_files ≡ length c.args.open_files.now = c.loop-file.auto.open_files in
    let is_empty : OpenFile → Type 0 = λ f. f.piece.items ≡ [] in
    record {
      same = c.flush.ensures.same ∙ inv.same;
      stays = c.flush.ensures.stays;
      named = named w ∙ inv.named;
      placed = still_placed w inv.placed (subst (λ (n : DiskNature). IsPlaced n.tells now c.flush.new.self) inv.same c.in_ok-flush.ensures.placed);
      emptied = step w is_empty is_empty (λ f _ empty. empty) 0 (i + 1) (omega arith)
          (λ k d from to not_i. inv.emptied k d from (omega arith)) (λ _ _. c.in_ok-flush.ensures.emptied);
      done = λ is_told list has. all_step w (HasLines before list) (HasLines now list) (has_lines w is_told list) (inv.done is_told list has)
          (c.in_ok-flush.ensures.gathers (told is_told) ∙ inv.done is_told list has i c.file-item.result (omega arith)
          ∙ ap (λ (number : ℕ). file_text number list) (sym c.flush.ensures.number));
      others = λ is_told file none.
          c.flush.ensures.others (told is_told) file (other w file (rw inv.named none)) ∙ inv.others is_told file none;
      faults = c.in_ok-flush.ensures.cause.works ∙ inv.faults;
    }

pub returns-in_err-flush-clause-numbers : goal.returns-in_err-flush-clause-numbers
returns-in_err-flush-clause-numbers g c =
    map-set_same (λ (f : OpenFile). f.number) c.loop-file.open_files c.loop-file.file-index c.flush.new.self c.file-item.result c.flush.ensures.number
    ∙ c.loop-file.invariant.named

pub returns-in_err-flush-clause-others : goal.returns-in_err-flush-clause-others
returns-in_err-flush-clause-others g c = λ is_told file none.
    let inv = c.loop-file.invariant in
    c.flush.ensures.others (subst (λ (n : DiskNature). IsTrue n.tells) (sym inv.same) is_told) file
    (not_number c.loop-file.open_files file c.loop-file.file-index c.file-item.result (rw inv.named none) (omega arith))
    ∙ inv.others is_told file none
