-- Patterns without assertions, such as `^` and `\b`, which read no byte.
use Rattle.std.specs.Prelude.{Bool, true, false, ◌&&◌}
use Rattle.regex.specs.Patterns.{Re, empty, literal, byte_in, char_in, look, cat, alt, group, plus}
use Rattle.regex_hir.specs.Meaning.{meaning}
use Rattle.regex_hir.specs.declared.hir.Hir.{Hir}

-- it has no assertion
abbrev pub is_plain : Re → Bool
is_plain empty = true
is_plain (literal bytes) = true
is_plain (byte_in ranges) = true
is_plain (char_in ranges) = true
is_plain (look assertion) = false
is_plain (cat a b) = is_plain a && is_plain b
is_plain (alt a b) = is_plain a && is_plain b
is_plain (group index a) = is_plain a
is_plain (plus greedy a) = is_plain a

-- the same pattern with nothing in place of each assertion
abbrev pub without_looks : Re → Re
without_looks empty = empty
without_looks (literal bytes) = literal bytes
without_looks (byte_in ranges) = byte_in ranges
without_looks (char_in ranges) = char_in ranges
without_looks (look assertion) = empty
without_looks (cat a b) = cat (without_looks a) (without_looks b)
without_looks (alt a b) = alt (without_looks a) (without_looks b)
without_looks (group index a) = group index (without_looks a)
without_looks (plus greedy a) = plus greedy (without_looks a)

-- what a tree means, without its assertions
abbrev pub stripped : Hir → Re
stripped tree = without_looks (meaning tree)
