-- The image of a seed and a size: blocks, each with its own random word, cut at the size.
use Rattle.std.specs.Prelude.{ℕ, ◌+◌, ◌-◌, ◌/◌, List, take, flat_map}
use Rattle.std.specs.List.{range_with_len}
use Rattle.image_gen.specs.Words.{word_at}
use Rattle.image_gen.specs.Blocks.{block_of}
use Rattle.image_gen.specs.declared.block.TheConstants.{BLOCK_SIZE}

-- how many blocks it takes to hold so many bytes
abbrev pub block_count : ℕ → ℕ
block_count size = (size + BLOCK_SIZE - 1) / BLOCK_SIZE

-- the first blocks of a seed, so many
abbrev pub blocks_of : ℕ → ℕ → List ℕ
blocks_of seed count = flat_map (λ number. block_of number (word_at seed number)) (range_with_len 0 count)

-- the image of a seed, with so many bytes
unfoldable pub image_of : ℕ → ℕ → List ℕ
image_of seed size = take size (blocks_of seed (block_count size))
