use Rattle.std.proofs.Common.{◌∙◌, ◌++◌, ◌∷◌, IsTrue, List, [], take, subst, sym, ap}
use Rattle.std.specs.List.{All}
use Rattle.std.proofs.lemmas.List.{take_more}
use Rattle.forensic_path.specs.declared.feature.Classed.{Classed}
use Rattle.host_disk.specs.Disk.{DiskNature}
use Rattle.report_publish.specs.OpenFile.{IsPlaced, HasLines}
use Rattle.report_publish.proofs.lines.add_lines.Goals as goal

pub loop-item-preserved : goal.loop-item-preserved
loop-item-preserved g c =
    let inv = c.loop-item.invariant in
    let tells = (g.D.Disk.nature c.args.disk.now).tells in
    let now = g.D.Disk.files c.add_line.new.disk in
    let told : IsTrue tells → IsTrue (g.D.Disk.nature c.loop-item.disk).tells =
    λ is_told. subst (λ (n : DiskNature). IsTrue n.tells) (sym inv.same) is_told in
    record {
      same = c.add_line.ensures.same ∙ inv.same;
      stays = c.add_line.ensures.stays;
      named = c.add_line.ensures.numbers ∙ inv.named;
      placed = subst (λ (n : DiskNature). All (IsPlaced n.tells now) c.add_line.new.open_files) inv.same c.in_ok-add_line.ensures.placed;
      done = λ is_told has.
          subst (λ (list : List Classed). All (HasLines now list) c.add_line.new.open_files)
          (ap (λ (item : Classed). take c.loop-item.item-index c.args.items.now ++ item ∷ []) c.item-item.is
          ∙ sym (take_more c.args.items.now c.loop-item.item-index c.item-item.result c.loop-item-test.true))
          (c.in_ok-add_line.ensures.lines (told is_told) (take c.loop-item.item-index c.args.items.now) (inv.done is_told has));
      others = λ is_told file none.
          c.add_line.ensures.others (told is_told) file (rw inv.named none) ∙ inv.others is_told file none;
      faults = c.in_ok-add_line.ensures.cause.works ∙ inv.faults;
    }
