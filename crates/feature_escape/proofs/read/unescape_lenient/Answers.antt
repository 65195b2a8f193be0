use Rattle.std.proofs.Common.{◌≡◌, ℕ, List, [], ◌∷◌, ◌++◌, Some, None, ◌==◌, take, drop, position, sym, ap, ◌∙◌, append_assoc, append-nil}
use Rattle.std.proofs.lemmas.List.{take-append-drop}
use Rattle.feature_escape.specs.Escape.{unescape_lenient_of}
use Rattle.feature_escape.proofs.Runs.{fails_before, fails_in_all, read_run}
use Rattle.feature_escape.proofs.read.unescape_lenient.Goals as goal

-- one more byte is read
more_read : (got rest text after : List ℕ) (at byte : ℕ) → position (λ b. b == 92) rest ≡ Some at
    → got ++ unescape_lenient_of rest ≡ text → unescape_lenient_of (drop at rest) ≡ byte ∷ unescape_lenient_of after
    → ((got ++ take at rest) ++ byte ∷ []) ++ unescape_lenient_of after ≡ text
more_read got rest text after at byte found read next =
    simp append_assoc (ap (λ more. got ++ (take at rest ++ more)) (sym next)
    ∙ ap (λ more. got ++ more) (sym (read_run (take at rest) (drop at rest) (fails_before (λ b. b == 92) rest at found))
    ∙ ap unescape_lenient_of (take-append-drop at rest))
    ∙ read)

-- what has no backslash is read as itself
read_rest : (rest : List ℕ) → position (λ b. b == 92) rest ≡ None → unescape_lenient_of rest ≡ rest
unfolding unescape_lenient_of
read_rest rest none =
    ap unescape_lenient_of (sym (append-nil rest)) ∙ read_run rest [] (fails_in_all (λ b. b == 92) rest none) ∙ append-nil rest

pub loop-at-preserved : goal.loop-at-preserved
loop-at-preserved c =
    simp (
      c.in_ok-push.ensures.items,
      c.in_ok-extend_from_slice.ensures.items,
      c.split_at-in-Some.ensures.back,
      c.split_at.ensures.back,
      c.split_at.ensures.front,
    )
    (more_read c.loop-at.bytes.items c.loop-at.rest.now _ (drop c.first_read-byte.result.1 (drop c.in-Some.at c.loop-at.rest.now)) c.in-Some.at c.first_read-byte.result.0
    (sym c.in-Some.ensures) c.loop-at.invariant (rw c.split_at.ensures.back at c.first_read-byte.ensures.read))

pub returns : goal.returns
returns c =
    c.from.ensures ∙ c.in_ok-extend_from_slice-2.ensures.items
    ∙ ap (λ more. c.loop-at.bytes.items ++ more) (sym (read_rest c.loop-at.rest.now (sym c.in_default.ensures)))
    ∙ c.loop-at.invariant
