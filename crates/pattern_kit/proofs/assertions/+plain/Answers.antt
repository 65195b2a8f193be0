use Rattle.std.proofs.Common.{map}
use Rattle.regex_hir.specs.Meaning.{meaning}
use Rattle.regex_hir.proofs.MeaningLemmas.{meaning-Repetition, meaning-Concat, meaning-Alternation}
use Rattle.pattern_kit.proofs.PlainPatterns.{repeat_plain, cat_plain, alt_plain}
use Rattle.pattern_kit.proofs.assertions.+plain.Goals as goal

pub is_plain-returns-in-Repetition : goal.is_plain-returns-in-Repetition
is_plain-returns-in-Repetition t c =
    λ yes. rw (c.in-Repetition.is, meaning-Repetition) (repeat_plain _ _ _ _ (rw c.deref.ensures at (c.is_plain.ensures yes)))

pub is_plain-returns-in-Concat : goal.is_plain-returns-in-Concat
is_plain-returns-in-Concat t c =
    λ yes. rw (c.in-Concat.is, meaning-Concat) (cat_plain (map meaning c.in-Concat.subs.items) (rw c.deref-in-Concat.ensures.value at (c.are_plain.ensures yes)))

pub is_plain-returns-in-Alternation : goal.is_plain-returns-in-Alternation
is_plain-returns-in-Alternation t c =
    λ yes. rw (c.in-Alternation.is, meaning-Alternation)
    (alt_plain (map meaning c.in-Alternation.subs.items) (rw c.deref-in-Alternation.ensures.value at (c.are_plain-in-Alternation.ensures yes)))
