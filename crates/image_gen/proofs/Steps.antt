-- One word and one block more.
use Rattle.std.proofs.Common.{◌≡◌, ◌∙◌, ℕ, ◌+◌, List, [], ◌∷◌, ◌++◌, ap, sym, arith, append-nil, add-one}
use Rattle.std.specs.Prelude.{map, fold, flat_map}
use Rattle.std.specs.List.{range_with_len}
use Rattle.std.proofs.lemmas.List.{map-id}
use Rattle.std.proofs.lemmas.List.Concat.{flat_map-append}
use Rattle.std.proofs.lemmas.List.FromFn.{map-range_with_len_more}
use Rattle.std.proofs.lemmas.List.Sums.{fold-append}
use Rattle.rand_xoshiro.specs.SplitMix64.{mix_u64}
use Rattle.image_gen.specs.Words.{state_after, word_at}
use Rattle.image_gen.specs.Blocks.{block_of}
use Rattle.image_gen.specs.Image.{blocks_of}

range_more : (n : ℕ) → range_with_len 0 (n + 1) ≡ range_with_len 0 n ++ n ∷ []
range_more n =
    sym (map-id (range_with_len 0 (n + 1))) ∙ map-range_with_len_more (λ (x : ℕ). x) 0 n n (omega arith)
    ∙ ap (λ (front : List ℕ). front ++ n ∷ []) (map-id (range_with_len 0 n))

-- a fold over the values at 0, 1, 2 and so on, one value further
pub fold_range_more : (add : ℕ → ℕ → ℕ) (f : ℕ → ℕ) (n : ℕ)
    → fold add 0 (map f (range_with_len 0 (n + 1))) ≡ add (fold add 0 (map f (range_with_len 0 n))) (f n)
fold_range_more add f n =
    ap (fold add 0) (map-range_with_len_more f 0 n n (omega arith)) ∙ fold-append add 0 (map f (range_with_len 0 n)) (f n ∷ [])

pub state_more : (seed n word state : ℕ) → (word, state) ≡ mix_u64 (state_after seed n) → state ≡ state_after seed (n + 1)
unfolding state_after
state_more seed n word state drawn = rw add-one (ap (λ (both : ℕ × ℕ). both.1) drawn)

pub word_is : (seed n word state : ℕ) → (word, state) ≡ mix_u64 (state_after seed n) → word ≡ word_at seed n
unfolding word_at
word_is seed n word state drawn = ap (λ (both : ℕ × ℕ). both.0) drawn

pub blocks_more : (seed n : ℕ) → blocks_of seed (n + 1) ≡ blocks_of seed n ++ block_of n (word_at seed n)
blocks_more seed n =
    let block = λ (number : ℕ). block_of number (word_at seed number) in
    ap (flat_map block) (range_more n) ∙ flat_map-append block (range_with_len 0 n) (n ∷ [])
    ∙ ap (λ (last : List ℕ). blocks_of seed n ++ last) (append-nil (block n))
