-- One text has one meaning: its readings match alike.
use Rattle.std.proofs.Common.{◌≡◌, ℕ, ◌≤◌, List, length, Option, None, Some, IsSomeAnd, false, ap, ◌∙◌, sym, subst}
use Rattle.std.specs.Str.{chars}
use Rattle.regex.proofs.ForCallers.{span_alike}
use Rattle.regex.specs.Names.{names_of}
use Rattle.regex.specs.Patterns.{Re, Reads, SameCaptures}
use Rattle.regex_hir.specs.Meaning.{meaning}
use Rattle.regex_hir.specs.declared.hir.Hir.{Hir}
use Rattle.regex_syntax.proofs.CapturesLemmas.{◌also◌, alike_sym}
use Rattle.regex_syntax.specs.Brackets.{Nested}
use Rattle.regex_syntax.specs.Grammar.{Names, group_count, read}
use Rattle.regex_syntax.specs.declared.Config.{Config}
use Rattle.pattern_kit.specs.Meanings.{HaveOneMeaning}
use Rattle.pattern_kit.specs.Readings.{HasReading, byte_config, end_from_front, match_at_front}
use Rattle.pattern_kit.specs.Words.{IsItself, word_length}

-- what `regex_syntax` says of a tree that it read
abbrev IsTreeOf : Config → Option (Nested Re × Names) → Re → Names → Type 0
IsTreeOf config whole tree names = IsSomeAnd whole (λ (re, found).
    (re.depth ≤ config.nest_limit) × SameCaptures tree re.value × (names ≡ found) × (group_count tree ≤ length names))

trees_alike : (config : Config) (whole : Option (Nested Re × Names)) (a b : Re) (m n : Names) →
    IsTreeOf config whole a m → IsTreeOf config whole b n → SameCaptures a b
trees_alike config None a b m n p q = absurd p
trees_alike config (Some x) a b m n p q = p.1 also alike_sym q.1

-- two trees that are read in one text match alike
pub alike_read : (config : Config) (text : List ℕ) (a b : Hir) (m n : Names) → Reads config text a m → Reads config text b n →
    SameCaptures (meaning a) (meaning b)
unfolding Reads
alike_read config text a b m n = trees_alike config (read config (chars text)) (meaning a) (meaning b) m n

-- a reading matches like each tree that is read in the text
pub alike_reading : (text : List ℕ) (tree : Hir) (names : Names) (pattern : Re) → Reads byte_config text tree names → HasReading text pattern →
    SameCaptures pattern (meaning tree)
alike_reading text tree names pattern of_tree (regex, is_source, is_config, is_read, is) =
    let reads : Reads byte_config text regex.pattern.program.hir (names_of regex.pattern.names.items) = rw (is_source, is_config) at is_read in
    subst (λ p. SameCaptures p (meaning tree)) is (alike_read _ text _ tree _ names reads of_tree)

pub alike_readings : (text : List ℕ) (a b : Re) → HasReading text a → HasReading text b → SameCaptures a b
alike_readings text a b of_a (regex, is_source, is_config, is_read, is) =
    let reads : Reads byte_config text regex.pattern.program.hir (names_of regex.pattern.names.items) = rw (is_source, is_config) at is_read in
    subst (SameCaptures a) is (alike_reading text _ _ a reads of_a)

-- the law of `RegexKit`
pub readings_have_one_meaning : HaveOneMeaning HasReading match_at_front
unfolding match_at_front
readings_have_one_meaning text bytes a b are_bytes of_a of_b =
    ap end_from_front (span_alike (alike_readings text a b of_a of_b) bytes are_bytes false 0)

-- the law of `WordKit`
pub words_have_one_meaning : HaveOneMeaning IsItself word_length
words_have_one_meaning text bytes a b are_bytes of_a of_b = ap (λ word. word_length word bytes) (of_a ∙ sym of_b)
