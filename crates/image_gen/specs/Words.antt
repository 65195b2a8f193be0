-- The random words of a seed: those of SplitMix64 (Steele, Lea and Flood), whose state the seed is at first.
use Rattle.std.specs.Prelude.{ℕ, zero, suc}
use Rattle.rand_xoshiro.specs.SplitMix64.{mix_u64}

-- the state once so many words are drawn
unfoldable pub state_after : ℕ → ℕ → ℕ
state_after seed zero = seed
state_after seed (suc count) = (mix_u64 (state_after seed count)).1

-- the word with this number, from 0 on
unfoldable pub word_at : ℕ → ℕ → ℕ
word_at seed number = (mix_u64 (state_after seed number)).0
