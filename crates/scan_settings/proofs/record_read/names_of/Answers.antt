use Rattle.std.proofs.Common.{◌≡◌, ◌++◌, ◌∷◌, [], ℕ, List, take, get_or, sym, subst, ap, ◌∙◌}
use Rattle.std.proofs.lemmas.List.{take_more}
use Rattle.std.specs.List.{All}
use Rattle.std.specs.Str.{IsUtf8}
use Rattle.scan_settings.proofs.Texts.{all_push}
use Rattle.scan_settings.proofs.record_read.names_of.Goals as goal

pub returns-in_default-clause-none : goal.returns-in_default-clause-none
returns-in_default-clause-none c = λ all.
    c.in_default.ensures.cases.0
    (subst IsUtf8 (sym (c.as_slice.ensures ∙ c.text-item.is)) (all c.loop-text.text-index c.text-item.result c.loop-text-test.true))

pub loop-text-preserved : goal.loop-text-preserved
loop-text-preserved c =
    let now = c.loop-text in
    let texts = c.args.texts.now in
    let item : c.in_ok-copy.field-0 ≡ get_or texts now.text-index c.text-item.result =
    c.in_ok-copy.ensures ∙ c.in-Ok.ensures.cases.0 ∙ c.as_slice.ensures ∙ c.text-item.is in
    let more = take_more texts now.text-index c.text-item.result c.loop-text-test.true in
    let utf8 = subst IsUtf8 (c.as_slice.ensures ∙ c.text-item.is) c.in-Ok.ensures.cases.1 in
    record {
      names = c.in_ok-add.ensures.added ∙ ap (λ (names : List (List ℕ)). names ++ c.in_ok-copy.field-0 ∷ []) now.invariant.names
          ∙ ap (λ (name : List ℕ). take now.text-index texts ++ name ∷ []) item ∙ sym more;
      utf8 = subst (All IsUtf8) (sym more) (all_push IsUtf8 (take now.text-index texts) (get_or texts now.text-index c.text-item.result) now.invariant.utf8 utf8);
    }

pub returns-clause-utf8 : goal.returns-clause-utf8
returns-clause-utf8 c = subst (All IsUtf8) (sym c.loop-text.invariant.names) c.loop-text.invariant.utf8
