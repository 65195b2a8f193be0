-- Worked examples of words, mostly of 6 to 14 bytes.
use Rattle.std.specs.Prelude.{ℕ, ◌≡◌, refl, List, [], ◌∷◌, ◌++◌, replicate, codes, Some, None}
use Rattle.byte_kit.specs.Classes.{word_class}
use Rattle.sbuf_nest.specs.Around.{look_at}
use Rattle.scan_wordlist.specs.Word.{word_of}

-- ---- `strawberry` behind 508 blanks

abbrev strawberry : List ℕ
strawberry = replicate 508 32 ++ codes "strawberry" ++ replicate 506 32

pub word_between_blanks : word_of 6 14 (look_at strawberry 508) ≡ Some 10
unfolding word_of word_class look_at
word_between_blanks = refl

-- `wberry` has six bytes
pub no_word_begins_within_a_word : word_of 6 14 (look_at strawberry 512) ≡ None
unfolding word_of word_class look_at
no_word_begins_within_a_word = refl

pub no_word_begins_at_a_blank : word_of 6 14 (look_at strawberry 507) ≡ None
unfolding word_of word_class look_at
no_word_begins_at_a_blank = refl

-- ---- lengths

pub word_below_the_least : word_of 6 14 (look_at (codes "berry") 0) ≡ None
unfolding word_of word_class look_at
word_below_the_least = refl

pub word_of_the_least : word_of 6 14 (look_at (codes "cherry") 0) ≡ Some 6
unfolding word_of word_class look_at
word_of_the_least = refl

pub word_of_the_most : word_of 6 14 (look_at (codes "huckle-berries") 0) ≡ Some 14
unfolding word_of word_class look_at
word_of_the_most = refl

-- a longer word is no word at all, and none is cut
pub word_above_the_most : word_of 6 14 (look_at (codes "huckle-berries!") 0) ≡ None
unfolding word_of word_class look_at
word_above_the_most = refl

pub word_of_one_byte : word_of 1 1 (look_at (codes "a b") 2) ≡ Some 1
unfolding word_of word_class look_at
word_of_one_byte = refl

pub word_of_256_bytes : word_of 256 256 (look_at (replicate 256 97) 0) ≡ Some 256
unfolding word_of word_class look_at
word_of_256_bytes = refl

-- ---- bytes

-- 33 and 126 are of a word, and 32 and 127 not
pub first_and_last_byte_of_a_word : word_of 2 14 (look_at (32 ∷ 33 ∷ 126 ∷ 127 ∷ []) 1) ≡ Some 2
unfolding word_of word_class look_at
first_and_last_byte_of_a_word = refl

pub bytes_above_ascii_end_a_word : word_of 1 14 (look_at (codes "caf" ++ 195 ∷ 169 ∷ []) 0) ≡ Some 3
unfolding word_of word_class look_at
bytes_above_ascii_end_a_word = refl
