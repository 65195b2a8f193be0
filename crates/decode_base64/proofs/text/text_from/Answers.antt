use Rattle.std.proofs.Common.{◌∙◌, sym, arith, drop}
use Rattle.std.proofs.lemmas.List.Sums.{prefix_len-le-length}
use Rattle.byte_kit.specs.Classes.{base64_class}
use Rattle.decode_base64.proofs.Lines.{first_line, line_more}
use Rattle.decode_base64.proofs.Counts.{line_letters, letters_of_two, letters_of_run}
use Rattle.decode_base64.proofs.text.text_from.Goals as goal

pub loop-last-init : goal.loop-last-init
loop-last-init c =
    let bytes = c.args.bytes.now in
    record {
      within = omega (arith, c.requires.first, prefix_len-le-length base64_class bytes);
      most = omega (arith, c.requires.first);
      reach = omega arith;
      letters = sym (letters_of_run bytes c.args.width (omega (arith, c.requires.first)));
      text = first_line bytes c.args.width c.requires.first c.requires.some;
    }

pub loop-last-preserved : goal.loop-last-preserved
loop-last-preserved c =
    let bytes = c.args.bytes.now in
    let width = c.args.width in
    let inv = c.loop-last.invariant in
    let end = c.loop-last.end in
    let letters = c.loop-last.letters in
    let line = c.next_line-line.result in
    let behind = drop end bytes in
    let is = rw c.split_at.ensures.back at c.next_line-line.ensures.line in
    record {
      within = omega (arith, c.next_line-line.ensures.within, c.split_at.ensures.back_len, inv.within);
      most = omega (arith, c.next_line-line.ensures.most, inv.most);
      reach = omega (arith, c.next_line-line.ensures.reach, inv.reach);
      letters = sym (letters_of_two end line.bytes bytes ∙ omega (arith, inv.letters, line_letters behind _ line.bytes line.letters is));
      text = line_more bytes width c.loop-last.last end letters line.bytes line.letters c.requires.some c.loop-last-test.true c.if-letters-lt-LETTERS_MOST.true inv.text is;
    }
