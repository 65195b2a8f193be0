-- How many bytes blocks and images have.
use Rattle.std.proofs.Common.{◌≡◌, ◌∙◌, ℕ, zero, suc, ◌+◌, ◌*◌, length, ap, refl, arith, length-append}
use Rattle.std.proofs.lemmas.List.{length-take}
use Rattle.image_gen.specs.Words.{word_at}
use Rattle.image_gen.specs.Blocks.{text_of, kind_of, block_of}
use Rattle.image_gen.specs.Image.{block_count, blocks_of, image_of}
use Rattle.image_gen.specs.declared.block.TheConstants.{BLOCK_SIZE}
use Rattle.image_gen.proofs.Filled.{length-filled}
use Rattle.image_gen.proofs.Steps.{blocks_more}

length-blocks : (seed count : ℕ) → length (blocks_of seed count) ≡ 4096 * count
length-blocks seed zero = refl
length-blocks seed (suc count) =
    let one : suc count ≡ count + 1 = omega arith in
    let last : length (block_of count (word_at seed count)) ≡ 4096 =
    length-filled BLOCK_SIZE (text_of (kind_of count) (word_at seed count)) in
    ap (λ (n : ℕ). length (blocks_of seed n)) one
    ∙ ap length (blocks_more seed count)
    ∙ omega (arith, last, length-blocks seed count, length-append (blocks_of seed count) (block_of count (word_at seed count)))

pub length-image : (seed size : ℕ) → length (image_of seed size) ≡ size
unfolding image_of
length-image seed size =
    length-take size (blocks_of seed (block_count size)) ∙ omega (arith, length-blocks seed (block_count size))
