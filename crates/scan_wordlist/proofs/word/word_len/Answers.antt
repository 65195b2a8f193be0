use Rattle.std.proofs.Common.{◌≡◌, true, inl, inr, sym, arith}
use Rattle.byte_kit.specs.Classes.{word_class}
use Rattle.sbuf_nest.specs.Around.{seen}
use Rattle.sbuf_nest.specs.Edges.{begins_run}
use Rattle.scan_wordlist.proofs.Runs.{some_word, short_run, long_run}
use Rattle.scan_wordlist.proofs.word.word_len.Goals.{then-run-min-via-then-run-min, then-run-min-via-else-run-min+then-run-max}
use Rattle.scan_wordlist.proofs.word.word_len.Goals as goal

pub returns-then-run-min : goal.returns-then-run-min
returns-then-run-min c =
    let look = seen c.args.look.now in
    elim c.run_of-run.ensures [
      | inl is ↦ (elim c.then-run-min.branch [
        | then-run-min-via-then-run-min w ↦ sym (short_run c.args.min c.args.max look (omega (arith, is, w.if-run-min.true)))
        | then-run-min-via-else-run-min+then-run-max w ↦ sym (long_run c.args.min c.args.max look (omega (arith, is, w.if-run-max.true)))
      ])
      | inr more ↦ sym (long_run c.args.min c.args.max look more.0)
    ]

pub returns : goal.returns
returns c =
    let look = seen c.args.look.now in
    let begins : begins_run word_class look ≡ true = cc (c.begins_run.ensures, c.if-not-begins_run.false, c.if-not-begins_run.ensures) in
    elim c.run_of-run.ensures [
      | inl is ↦ sym (some_word c.args.min c.args.max c.run_of-run.result look begins (sym is) (omega (arith, c.if-run-min.false)) (omega (arith, c.if-run-max.false)))
      | inr more ↦ absurd (omega (arith, more.1, c.if-run-max.false))
    ]
