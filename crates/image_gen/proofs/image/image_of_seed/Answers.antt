use Rattle.std.proofs.Common.{◌≡◌, ◌∙◌, List, ℕ, ◌++◌, ap, sym, arith, length, take}
use Rattle.image_gen.specs.Words.{state_after}
use Rattle.image_gen.specs.Blocks.{block_of}
use Rattle.image_gen.specs.Image.{block_count, blocks_of, image_of}
use Rattle.image_gen.proofs.Sizes.{length-image}
use Rattle.image_gen.proofs.Steps.{state_more, word_is, blocks_more}
use Rattle.image_gen.proofs.image.image_of_seed.Goals as goal

pub loop-number-init : goal.loop-number-init
unfolding state_after
loop-number-init c = record { state = c.seed_from_u64-words.ensures.same; made = c.in_ok-image.ensures.items }

pub loop-number-preserved : goal.loop-number-preserved
loop-number-preserved c =
    let seed : ℕ = c.args.seed in
    let number : ℕ = c.loop-number.number in
    let drawn = rw c.loop-number.invariant.state at c.next_word.ensures in
    record {
      state = state_more seed number c.next_word.result c.next_word.new.self drawn;
      made =
          c.in_ok-push_block.ensures
          ∙ ap (λ (front : List ℕ). front ++ block_of number c.next_word.result) c.loop-number.invariant.made
          ∙ ap (λ (word : ℕ). blocks_of seed number ++ block_of number word)
          (word_is seed number c.next_word.result c.next_word.new.self drawn)
          ∙ sym (blocks_more seed number);
    }

-- all blocks are there, and are cut at the size
is_image : (seed size count : ℕ) (made cut : List ℕ) → count ≡ block_count size → made ≡ blocks_of seed count
    → cut ≡ take size made → cut ≡ image_of seed size
unfolding image_of
is_image seed size count made cut all blocks is = is ∙ ap (take size) (blocks ∙ ap (blocks_of seed) all)

pub returns : goal.returns
returns c =
    let all : c.loop-number.number ≡ block_count c.args.size = omega (arith, c.div_ceil-count.ensures) in
    let is : c.truncate.new.self.items ≡ image_of c.args.seed c.args.size =
    is_image _ _ _ _ _ all c.loop-number.invariant.made c.truncate.ensures.items in
    record { image = is; size = ap length is ∙ length-image c.args.seed c.args.size }
