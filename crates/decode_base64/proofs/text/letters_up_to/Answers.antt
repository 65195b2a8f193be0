use Rattle.std.proofs.Common.{◌∙◌, arith, ap}
use Rattle.std.specs.List.{prefix_len}
use Rattle.std.proofs.lemmas.List.Sums.{prefix_len-le-length}
use Rattle.byte_kit.specs.Classes.{base64_class}
use Rattle.sbuf_nest.proofs.ClassRuns.{prefix_len-take}
use Rattle.decode_base64.proofs.text.letters_up_to.Goals as goal

pub returns-clause-letters : goal.returns-clause-letters
returns-clause-letters c =
    let bytes = c.args.bytes.now in
    let run = c.letters_len.ensures.run ∙ ap (prefix_len base64_class) c.split_at.ensures.front ∙ prefix_len-take base64_class c.min.result bytes in
    omega (arith, run, c.min.ensures, prefix_len-le-length base64_class bytes)
