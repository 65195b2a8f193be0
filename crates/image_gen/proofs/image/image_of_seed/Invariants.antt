use Rattle.std.proofs.Common.{◌≡◌}
use Rattle.image_gen.specs.Words.{state_after}
use Rattle.image_gen.specs.Image.{blocks_of}
use Rattle.image_gen.proofs.image.image_of_seed.Given as goal

abbrev pub invariant-loop-number : goal.invariant-loop-number
invariant-loop-number l = record {
  state : l.words ≡ state_after l.seed l.number;
  made : l.image.items ≡ blocks_of l.seed l.number;
}
