use Rattle.byte_kit.specs.Classes.{base64_class}
use Rattle.sbuf_nest.proofs.StrangerRows.{none_joined}
use Rattle.decode_base64.proofs.Texts.{none_from}
use Rattle.decode_base64.proofs.find.past_line.Goals as goal

pub returns-clause-none : goal.returns-clause-none
returns-clause-none c =
    let bytes = c.args.sb.now.bytes.now in
    none_from bytes c.args.next c.past_break.result
    (none_joined base64_class bytes 32 c.args.next c.past_run-behind.result c.past_break.result (c.past_run-behind.ensures.none 32) c.past_break.ensures.none)
