use Rattle.std.proofs.Common.{◌≡◌, ◌∙◌, ◌++◌, ℕ, List, [], ◌∷◌, true, Result, Ok, Err, OnOk, ap, sym}
use Rattle.forensic_path.specs.declared.feature.Classed.{Classed}
use Rattle.host_disk.specs.Files.{Files}
use Rattle.feature_file.specs.FeatureFile.{line_text, stands_in, file_text}
use Rattle.report_publish.specs.declared.open_file.OpenFile.{OpenFile}
use Rattle.report_publish.specs.OpenFile.{gathered, HasLines}
use Rattle.report_publish.proofs.Texts.{text_more, text_same}
use Rattle.report_publish.proofs.open_file.OpenFile.add.Goals as goal

-- what follows from a fact on `Ok` holds on `Ok`
on_ok : {T E : Type 0} (result : Result T E) (P Q : Type 0) → (P → Q) → OnOk result P → OnOk result Q
on_ok (Ok x) P Q f p = f p
on_ok (Err e) P Q f p = p

-- a line that was gathered is that of one more feature
one_more :
    (files now : Files) (old new : OpenFile) (item : Classed) (line : List ℕ) →
    new.number ≡ old.number → line ≡ line_text item → stands_in old.number item ≡ true →
    gathered now new ≡ gathered files old ++ line →
    (list : List Classed) → HasLines files list old → HasLines now (list ++ item ∷ []) new
one_more files now old new item line same own stands gathers list has =
    gathers
    ∙ ap (λ front. front ++ line) has
    ∙ ap (λ text. file_text old.number list ++ text) own
    ∙ sym (text_more old.number list item stands)
    ∙ ap (λ number. file_text number (list ++ item ∷ [])) (sym same)

pub returns-then-stands_in-clause-lines : goal.returns-then-stands_in-clause-lines
returns-then-stands_in-clause-lines g c = λ tells.
    on_ok _ _ _
    (one_more (g.D.Disk.files c.args.disk.now) (g.D.Disk.files c.append.new.disk) c.args.self.now c.append.new.self c.args.item.now c.args.line.now
    c.append.ensures.number c.requires.line (sym c.stands_in.ensures ∙ c.if-stands_in.true))
    (c.append.ensures.gathers tells)

pub returns-else-stands_in-clause-lines : goal.returns-else-stands_in-clause-lines
returns-else-stands_in-clause-lines g c = λ tells list has.
    has ∙ sym (text_same c.args.self.now.number list c.args.item.now (sym c.stands_in.ensures ∙ c.if-stands_in.false))
