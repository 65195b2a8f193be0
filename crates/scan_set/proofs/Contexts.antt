-- The bytes ahead of a place and those from it on, each as far as it is seen, are one part of the buffer.
use Rattle.std.proofs.Common.{◌≡◌, ◌∙◌, ℕ, ◌+◌, ◌-◌, ◌<◌, min, List, ◌++◌, length, take, drop, sym, ap, arith, length-drop}
use Rattle.std.specs.Prelude.{slice_range}
use Rattle.std.proofs.lemmas.List.{length-take, take_min, take-take, drop-drop, drop-take}
use Rattle.std.proofs.lemmas.List.Folds.{drop_split}
use Rattle.std.proofs.Math.Seq.{take-append-add}

-- how many bytes are seen ahead of the place and from it on, and how many of each are taken
module _ (bytes : List ℕ) (place : ℕ) (inside : place < length bytes) (seen_ahead seen_behind reach count : ℕ) where
  taken_ahead : ℕ
  taken_ahead = place - min (min place seen_ahead) reach

  taken_behind : ℕ
  taken_behind = min (min count seen_behind) (length bytes - place)

  front_is : drop (length (drop (place - seen_ahead) (take place bytes)) - reach) (drop (place - seen_ahead) (take place bytes))
      ≡ slice_range bytes taken_ahead place
  unfolding taken_ahead
  front_is =
      let near = drop (place - seen_ahead) (take place bytes) in
      let from = place - min (min place seen_ahead) reach in
      let passed : place - seen_ahead + (length near - reach) ≡ from = omega (arith, inside, length-drop (place - seen_ahead) (take place bytes), length-take place bytes) in
      let all : place ≡ from + (place - from) = omega arith in
      drop-drop (length near - reach) (place - seen_ahead) (take place bytes) ∙ ap (λ n. drop n (take place bytes)) passed
      ∙ ap (λ n. drop from (take n bytes)) all ∙ drop-take from (place - from) bytes

  back_is : take count (take seen_behind (drop place bytes)) ≡ take taken_behind (drop place bytes)
  unfolding taken_behind
  back_is =
      let far = take seen_behind (drop place bytes) in
      let few = min count (length far) in
      let long = length-take seen_behind (drop place bytes) in
      let left = length-drop place bytes in
      sym (take_min count far) ∙ take-take few seen_behind (drop place bytes) (omega (arith, long))
      ∙ ap (λ n. take n (drop place bytes)) (omega (arith, long, left))

  pub one_part : slice_range bytes (place - min (min place seen_ahead) reach) (place + min (min count seen_behind) (length bytes - place))
      ≡ drop (length (drop (place - seen_ahead) (take place bytes)) - reach) (drop (place - seen_ahead) (take place bytes))
      ++ take count (take seen_behind (drop place bytes))
  unfolding taken_ahead taken_behind
  one_part =
      let from = place - min (min place seen_ahead) reach in
      let to = place + min (min count seen_behind) (length bytes - place) in
      let front = slice_range bytes from place in
      let rest = drop place bytes in
      let few : to - from ≡ length front + (to - place) = omega (arith, inside, length-take (place - from) (drop from bytes), length-drop from bytes) in
      let last : to - place ≡ min (min count seen_behind) (length bytes - place) = omega arith in
      ap (take (to - from)) (drop_split bytes from place (omega arith)) ∙ ap (λ n. take n (front ++ rest)) few ∙ take-append-add front rest (to - place)
      ∙ ap (λ n. front ++ take n rest) last ∙ ap (λ some. some ++ take taken_behind rest) (sym front_is)
      ∙ ap (λ some. drop (length (drop (place - seen_ahead) (take place bytes)) - reach) (drop (place - seen_ahead) (take place bytes)) ++ some) (sym back_is)
