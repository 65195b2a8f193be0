use Rattle.std.proofs.Common.{◌≡◌, ◌∙◌, ◌+◌, false, length, sym, ap, arith}
use Rattle.std.specs.Prelude.{nat_eq}
use Rattle.std.specs.List.{prefix_len}
use Rattle.std.proofs.lemmas.Bool.Decides.{nat_tests}
use Rattle.byte_kit.specs.Classes.{word_class}
use Rattle.scan_wordlist.proofs.Runs.{row_goes_on, row_broken, no_room}
use Rattle.scan_wordlist.proofs.filter.RowTestPlaceTest.passes_at.Goals as goal

pub returns-then-from : goal.returns-then-from
returns-then-from g c = sym (no_room c.args.bytes.now (g.row.MORE + 1) c.args.place (omega (arith, c.if-from.true, ap length c.split_at.ensures.back)))

pub returns-then-row_of : goal.returns-then-row_of
returns-then-row_of g c =
    c.is_word.ensures
    ∙ row_goes_on c.args.bytes.now c.split_at.result.1.now g.row.MORE c.args.place c.row_of.result c.split_at.ensures.back
    (c.row_of.ensures.run ∙ ap (prefix_len word_class) c.split_at-2.ensures.front) c.if-row_of.true

pub returns-else-row_of : goal.returns-else-row_of
returns-else-row_of g c =
    let fails : nat_eq c.row_of.result g.row.MORE ≡ false = grind (arith, nat_tests) in
    fails
    ∙ row_broken c.args.bytes.now c.split_at.result.1.now g.row.MORE c.args.place c.row_of.result c.split_at.ensures.back
    (c.row_of.ensures.run ∙ ap (prefix_len word_class) c.split_at-2.ensures.front) c.if-row_of.false
