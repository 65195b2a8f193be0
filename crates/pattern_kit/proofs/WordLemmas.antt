-- The length of a word at a place, by the test that the code makes.
use Rattle.std.proofs.Common.{◌≡◌, ℕ, true, false, nat_eq, List, length, take, ap, ◌∙◌}
use Rattle.std.specs.List.{starts_with}
use Rattle.pattern_kit.specs.declared.TheConstants.{PATTERN_REACH}
use Rattle.pattern_kit.specs.Matching.{length_at}
use Rattle.pattern_kit.specs.Words.{word_length}

pub word_stands : (word bytes seen : List ℕ) → seen ≡ take PATTERN_REACH bytes → true ≡ starts_with nat_eq seen word →
    length word ≡ length_at (word_length word) bytes 0
unfolding length_at word_length
word_stands word bytes seen is begins =
    rw (← (begins ∙ ap (λ xs. starts_with nat_eq xs word) is))

pub word_fails : (word bytes seen : List ℕ) → seen ≡ take PATTERN_REACH bytes → false ≡ starts_with nat_eq seen word →
    0 ≡ length_at (word_length word) bytes 0
unfolding length_at word_length
word_fails word bytes seen is begins =
    rw (← (begins ∙ ap (λ xs. starts_with nat_eq xs word) is))
