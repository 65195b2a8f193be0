use Rattle.std.proofs.Common.{◌≡◌, ◌∙◌, ◌++◌, ℕ, Bool, filter, nat_eq, ap, subst, sym, [], ◌∷◌, List}
use Rattle.std.specs.List.{All, IsDistinct}
use Rattle.std.proofs.lemmas.List.{take_all}
use Rattle.std.proofs.lemmas.List.Elements.{All-push}
use Rattle.feature_file.specs.Files.{is_written}
use Rattle.report_publish.specs.declared.open_file.OpenFile.{OpenFile}
use Rattle.report_publish.specs.declared.publish.TheConstants.{FEATURE_FILES}
use Rattle.report_publish.specs.OpenFile.{IsFresh}
use Rattle.report_publish.proofs.Apart.{distinct_filter, built_apart}
use Rattle.report_publish.proofs.Built.{fresh_file, one_more, none_more}
use Rattle.report_publish.proofs.features.open_all.Goals as goal
use Rattle.report_publish.proofs.features.open_all.Goals.{then-is_written+in_ok-make+in_ok-push, else-is_written}

abbrev is_for_these : ℕ → ℕ → Bool
is_for_these scanners file = is_written file scanners

pub loop-number-preserved : goal.loop-number-preserved
loop-number-preserved c =
    let inv = c.loop-number.invariant in
    let open_files = c.loop-number.open_files.items in
    let i = c.loop-number.number-index in
    elim c.if-is_written.branch [
      | then-is_written+in_ok-make+in_ok-push w ↦
          let f = w.in_ok-make.field-0 in
          let is : c.if-is_written.open_files.items ≡ open_files ++ f ∷ [] = cc (w.open_files-is, w.in_ok-push.ensures.items) in
          record {
            named = one_more open_files c.if-is_written.open_files.items f c.args.scanners i c.loop-number-test.true inv.named is
                w.in_ok-make.ensures.number (sym c.is_written.ensures.written ∙ w.if-is_written.true);
            fresh = subst (λ (files : List OpenFile). All IsFresh files) (sym is)
                (All-push IsFresh open_files f inv.fresh
                (fresh_file f i c.loop-number-test.true w.in_ok-make.ensures.number w.in_ok-make.ensures.written w.in_ok-make.ensures.piece));
          }
      | else-is_written w ↦
          record {
            named = none_more open_files c.if-is_written.open_files.items c.args.scanners i c.loop-number-test.true inv.named
                (cc w.open_files-is) (sym c.is_written.ensures.written ∙ w.if-is_written.false);
            fresh = rw w.open_files-is inv.fresh;
          }
    ]

pub returns-clause-apart : goal.returns-clause-apart
returns-clause-apart c =
    subst (λ (numbers : List ℕ). IsDistinct nat_eq numbers)
    (sym (c.loop-number.invariant.named ∙ ap (filter (is_for_these c.args.scanners)) (take_all c.loop-number.number-index FEATURE_FILES c.loop-number-test.false)))
    (distinct_filter (is_for_these c.args.scanners) FEATURE_FILES built_apart)
