use Rattle.std.proofs.Common.{refl}
use Rattle.regex.specs.Bytes.{regex_pattern}
use Rattle.pattern_kit.proofs.regex_kit.RegexKitKit.build.Goals as goal

pub invariant_of-result : goal.invariant_of-result
invariant_of-result c = record {
  passes = c.passing_of.ensures (regex_pattern c.in-Ok.regex)
      (c.in-Ok.regex, c.in-Ok.ensures.source, c.in-Ok.ensures.config, c.in-Ok.ensures.read, refl);
}
