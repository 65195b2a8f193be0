use Rattle.std.proofs.Common.{◌≡◌, ◌∙◌, sym, arith, true, false}
use Rattle.byte_kit.specs.Classes.{base64_class}
use Rattle.sbuf_nest.specs.Around.{seen}
use Rattle.sbuf_nest.specs.Edges.{begins_run}
use Rattle.decode_base64.proofs.Texts.{none_inside, none_behind, none_short, some_text, follows_line}
use Rattle.decode_base64.proofs.text.b64_text.Goals.{then-not-begins_run-via-then-not-begins_run, then-not-begins_run-via-else-not-begins_run+then-follows_line}
use Rattle.decode_base64.proofs.text.b64_text.Goals as goal

pub returns-then-not-begins_run : goal.returns-then-not-begins_run
returns-then-not-begins_run c =
    let look = seen c.args.look.now in
    elim c.then-not-begins_run.branch [
      | then-not-begins_run-via-then-not-begins_run w ↦ sym (none_inside look (sym c.begins_run.ensures ∙ w.if-not-begins_run.true))
      | then-not-begins_run-via-else-not-begins_run+then-follows_line w ↦ sym (none_behind look (sym w.follows_line.ensures ∙ w.if-follows_line.true))
    ]

pub returns-then-width-lt-LINE_LEAST : goal.returns-then-width-lt-LINE_LEAST
returns-then-width-lt-LINE_LEAST c =
    sym (none_short (seen c.args.look.now) (omega (arith, c.letters_up_to-width.ensures.letters, c.if-width-lt-LINE_LEAST.true)))

pub returns : goal.returns
returns c =
    let look = seen c.args.look.now in
    let begins : begins_run base64_class look ≡ true = sym c.begins_run.ensures ∙ c.if-not-begins_run.false in
    let ahead : follows_line look ≡ false = sym c.follows_line.ensures ∙ c.if-follows_line.false in
    sym (some_text look c.text_from.result begins ahead (omega (arith, c.letters_up_to-width.ensures.letters, c.if-width-lt-LINE_LEAST.false)) c.text_from.ensures.bytes c.text_from.ensures.units)
