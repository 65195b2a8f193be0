-- A decimal begins with no sign and no needless zero, and is ASCII; std reads the rest.
use Rattle.std.proofs.Common.{subst, arith}
use Rattle.std.specs.Fmt.{decimal}
use Rattle.std.specs.Str.{IsUtf8}
use Rattle.std.proofs.lemmas.Fmt.{IsAscii-decimal}
use Rattle.std.proofs.lemmas.Str.{IsUtf8-from_ascii}
use Rattle.byte_kit.proofs.Decimals.{IsPlain, no_decimal, plain_value, plain_none}
use Rattle.byte_kit.proofs.decimal.dec_read.Goals as goal

pub returns-in_err-first-clause-none : goal.returns-in_err-first-clause-none
returns-in_err-first-clause-none c =
    rw c.from_residual.ensures (no_decimal c.args.bytes.now
    (λ p. let none = c.in_err-first.ensures.item.3 in omega (arith, p.some, none)))

pub returns-then-first-eq43-clause-none : goal.returns-then-first-eq43-clause-none
returns-then-first-eq43-clause-none c =
    no_decimal c.args.bytes.now
    (λ p. let first = c.in_ok-first.ensures.item.3.1 0 in grind (arith, first, p.unsigned, p.canonical))

pub returns-in_default-clause-none : goal.returns-in_default-clause-none
returns-in_default-clause-none c = λ n small is.
    c.in_default.ensures.cases.0 (subst IsUtf8 is (IsUtf8-from_ascii (decimal n) (IsAscii-decimal n small)))

plain : (c : goal.After-ok) → IsPlain c.args.bytes.now
plain c =
    let first = c.in_ok-first.ensures.item.3.1 0 in
    record {
      some = c.in_ok-first.ensures.item.3.0;
      unsigned = λ e. grind (arith, first, c.if-first-eq43.false, e);
      canonical = λ e. grind (arith, first, c.if-bytes-gt1.either, c.in_ok-first.ensures.item.3.0);
    }

pub returns-clause-value : goal.returns-clause-value
returns-clause-value c =
    rw c.ok.ensures.value
    (plain_value c.in-Ok.text.now c.args.bytes.now c.parse.result c.in-Ok.ensures.cases.0 (plain c) c.parse.ensures.value.0)

pub returns-clause-none : goal.returns-clause-none
returns-clause-none c =
    rw c.ok.ensures.value
    (plain_none c.in-Ok.text.now c.args.bytes.now c.parse.result c.in-Ok.ensures.cases.0 (plain c) c.parse.ensures.value.0)
