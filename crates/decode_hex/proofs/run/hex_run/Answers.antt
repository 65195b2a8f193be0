use Rattle.std.proofs.Common.{◌≡◌, ◌∙◌, true, sym, ap, arith, take}
use Rattle.std.specs.List.{prefix_len}
use Rattle.byte_kit.specs.Classes.{hex_class}
use Rattle.sbuf_nest.specs.Around.{seen}
use Rattle.sbuf_nest.specs.Edges.{begins_run}
use Rattle.decode_hex.proofs.Digits.{few_digits, some_digits}
use Rattle.decode_hex.proofs.run.hex_run.Goals as goal

pub returns-then-digits-lt-DIGITS_LEAST : goal.returns-then-digits-lt-DIGITS_LEAST
returns-then-digits-lt-DIGITS_LEAST c =
    let look = seen c.args.look.now in
    let begins : begins_run hex_class look ≡ true = cc (c.begins_run.ensures, c.if-not-begins_run.false) in
    let run : c.run_len-digits.result ≡ prefix_len hex_class (take c.min-near.result look.after) =
    c.run_len-digits.ensures.run ∙ ap (prefix_len hex_class) c.split_at.ensures.front in
    sym (few_digits look c.min-near.result c.min-near.ensures begins (omega (arith, c.if-digits-lt-DIGITS_LEAST.true, run)))

pub returns : goal.returns
returns c =
    let look = seen c.args.look.now in
    let begins : begins_run hex_class look ≡ true = cc (c.begins_run.ensures, c.if-not-begins_run.false) in
    let run : c.run_len-digits.result ≡ prefix_len hex_class (take c.min-near.result look.after) =
    c.run_len-digits.ensures.run ∙ ap (prefix_len hex_class) c.split_at.ensures.front in
    let found = some_digits look c.min-near.result c.min-near.ensures begins (omega (arith, c.if-digits-lt-DIGITS_LEAST.false, run)) in
    sym (rw (sym run) at found)
