use Rattle.std.proofs.Common.{sym, refl, arith}
use Rattle.feature_escape.specs.Escape.{escape_of}
use Rattle.feature_escape.proofs.Strict.{no_text, more_text, more_bytes, whole_text}
use Rattle.feature_escape.proofs.read.unescape_strict.Goals as goal

pub loop-at-init : goal.loop-at-init
unfolding escape_of
loop-at-init c = rw c.in_ok-bytes.ensures.items record { are_bytes = tt; read = refl }

pub returns-in_default-escape_ahead-clause-none : goal.returns-in_default-escape_ahead-clause-none
returns-in_default-escape_ahead-clause-none c =
    let kept = c.loop-at.invariant in
    no_text c.loop-at.bytes.items c.loop-at.rest.now c.args.text.now c.in-Some.at (sym c.in-Some.ensures) kept.are_bytes kept.read
    (rw c.split_at.ensures.back at c.in_default-escape_ahead.ensures.none)

pub loop-at-preserved : goal.loop-at-preserved
loop-at-preserved c =
    let kept = c.loop-at.invariant in
    let found = sym c.in-Some.ensures in
    record {
      are_bytes = simp (c.in_ok-push.ensures.items, c.in_ok-extend_from_slice.ensures.items, c.split_at.ensures.front)
          (more_bytes c.loop-at.bytes.items c.loop-at.rest.now c.in-Some.at c.in-Some-escape_ahead.byte found kept.are_bytes (omega arith));
      read = simp (
        c.in_ok-push.ensures.items,
        c.in_ok-extend_from_slice.ensures.items,
        c.split_at-in-Some.ensures.back,
        c.split_at.ensures.back,
        c.split_at.ensures.front,
      )
          (more_text c.loop-at.bytes.items c.loop-at.rest.now c.args.text.now c.in-Some.at c.in-Some-escape_ahead.byte found kept.read
          (rw c.split_at.ensures.back at c.in-Some-escape_ahead.ensures.some.1));
    }

pub returns-clause-some : goal.returns-clause-some
returns-clause-some c =
    let kept = c.loop-at.invariant in
    rw (c.from.ensures, c.in_ok-extend_from_slice-2.ensures.items)
    (whole_text c.loop-at.bytes.items c.loop-at.rest.now c.args.text.now (sym c.in_default.ensures) kept.are_bytes kept.read)
