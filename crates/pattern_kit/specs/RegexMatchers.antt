-- What contracts see of a matcher of the `regex` crate.
use Rattle.regex.specs.Patterns.{Re}
use Rattle.regex.specs.Bytes.{regex_pattern}
use Rattle.pattern_kit.specs.declared.regex_matcher.RegexMatcher.{RegexMatcher}

-- the pattern that was read
abbrev pub pattern_read : RegexMatcher → Re
pattern_read matcher = regex_pattern matcher.regex
