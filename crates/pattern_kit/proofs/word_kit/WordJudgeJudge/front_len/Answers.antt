use Rattle.std.proofs.Common.{sym, ◌∙◌}
use Rattle.pattern_kit.proofs.WordLemmas.{word_stands, word_fails}
use Rattle.pattern_kit.proofs.word_kit.WordJudgeJudge.front_len.Goals as goal

pub returns-then-starts_with-clause-length : goal.returns-then-starts_with-clause-length
returns-then-starts_with-clause-length c =
    word_stands _ _ _ c.seen.ensures.bytes (sym c.if-starts_with.true ∙ c.starts_with.ensures.value)

pub returns-clause-length : goal.returns-clause-length
returns-clause-length c =
    word_fails _ _ _ c.seen.ensures.bytes (sym c.if-starts_with.false ∙ c.starts_with.ensures.value)
