use Rattle.std.proofs.Common.{◌≡◌, ℕ, List, ◌++◌, Some, take, drop, get_or, position, sym, ap, ◌∙◌, append_assoc, arith}
use Rattle.std.proofs.lemmas.Grind.{common_steps}
use Rattle.std.proofs.lemmas.Bool.{not-true}
use Rattle.feature_escape.specs.Escape.{escape_of, escaped}
use Rattle.feature_escape.proofs.Runs.{is_escaped, passes_at, fails_in_all, escape_of-at, escape_of_run}
use Rattle.feature_escape.proofs.write.push_escape.Goals as goal

more_written : (held rest target : List ℕ) (at : ℕ) → position is_escaped rest ≡ Some at → held ++ escape_of rest ≡ target
    → ((held ++ take at rest) ++ escaped (get_or (drop at rest) 0 0)) ++ escape_of (drop 1 (drop at rest)) ≡ target
more_written held rest target at found written = simp append_assoc (ap (λ text. held ++ text) (sym (escape_of-at rest at found)) ∙ written)

pub digits_of-requires : goal.digits_of-requires
digits_of-requires c = rw c.split_at.ensures.back (not-true _ (passes_at is_escaped c.loop-at.rest.now c.in-Some.at (sym c.in-Some.ensures)))

pub loop-at-preserved : goal.loop-at-preserved
loop-at-preserved c = record {
  written =
      simp (
        c.in_ok-extend_from_slice-2.ensures.items,
        c.in_ok-extend_from_slice.ensures.items,
        c.digits_of.ensures,
        c.split_at-in-Some.ensures.back,
        c.split_at.ensures.back,
        c.split_at.ensures.front,
      )
      (more_written c.loop-at.into.items c.loop-at.rest.now _ c.in-Some.at (sym c.in-Some.ensures) c.loop-at.invariant.written);
  front = grind (arith, common_steps);
}

pub returns-clause-appended : goal.returns-clause-appended
returns-clause-appended c =
    c.in_ok-extend_from_slice-3.ensures.items
    ∙ ap (λ rest. c.loop-at.into.items ++ rest)
    (sym (escape_of_run c.loop-at.rest.now (fails_in_all is_escaped c.loop-at.rest.now (sym c.in_default.ensures))))
    ∙ c.loop-at.invariant.written
