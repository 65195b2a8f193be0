use Rattle.std.proofs.Common.{map, ap, sym, ◌∙◌}
use Rattle.regex.specs.Patterns.{cat_all, alt_all, repeat}
use Rattle.regex_hir.specs.Meaning.{meaning}
use Rattle.regex_hir.proofs.MeaningLemmas.{meaning-Repetition, meaning-Concat, meaning-Alternation}
use Rattle.pattern_kit.specs.Assertions.{without_looks, stripped}
use Rattle.pattern_kit.proofs.PlainPatterns.{repeat_without, cat_without, alt_without}
use Rattle.pattern_kit.proofs.assertions.+strip.Goals as goal

pub strip-returns-in_ok-new-in-Repetition : goal.strip-returns-in_ok-new-in-Repetition
strip-returns-in_ok-new-in-Repetition t c =
    meaning-Repetition _ _ _ _
    ∙ ap (repeat c.in-Repetition.min c.in-Repetition.max c.in-Repetition.greedy)
    (ap meaning c.in_ok-new-in-Repetition.ensures.ok ∙ c.in_ok-strip-in-Repetition.ensures ∙ ap stripped c.deref-in-Repetition.ensures)
    ∙ sym (repeat_without _ _ _ (meaning c.in-Repetition.sub.value))
    ∙ ap without_looks (sym (meaning-Repetition _ _ _ _)) ∙ ap stripped (sym c.in-Repetition.is)

pub strip-returns-in_ok-strip_all-in-Concat : goal.strip-returns-in_ok-strip_all-in-Concat
strip-returns-in_ok-strip_all-in-Concat t c =
    meaning-Concat _ ∙ ap cat_all (c.in_ok-strip_all-in-Concat.ensures ∙ ap (map stripped) c.deref-in-Concat.ensures.value)
    ∙ sym (cat_without c.in-Concat.subs.items) ∙ ap without_looks (sym (meaning-Concat c.in-Concat.subs)) ∙ ap stripped (sym c.in-Concat.is)

pub strip-returns-in_ok-strip_all-in-Alternation : goal.strip-returns-in_ok-strip_all-in-Alternation
strip-returns-in_ok-strip_all-in-Alternation t c =
    meaning-Alternation _
    ∙ ap alt_all (c.in_ok-strip_all-in-Alternation.ensures ∙ ap (map stripped) c.deref-in-Alternation.ensures.value)
    ∙ sym (alt_without c.in-Alternation.subs.items) ∙ ap without_looks (sym (meaning-Alternation c.in-Alternation.subs))
    ∙ ap stripped (sym c.in-Alternation.is)
