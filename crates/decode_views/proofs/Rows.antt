-- Worked examples of runs of UTF-16 pairs, and of XORed places.
use Rattle.std.specs.Prelude.{ℕ, ◌≡◌, refl, List, [], ◌∷◌, ◌++◌, replicate, codes, flat_map, Some, None}
use Rattle.byte_kit.specs.Classes.{printable_class}
use Rattle.sbuf_nest.specs.Around.{look_at}
use Rattle.decode_views.specs.Utf16.{pairs_in, utf16_extent, utf16_value, utf16_of}
use Rattle.decode_views.specs.Xor.{xored}

-- a text in UTF-16LE
abbrev in_pairs : List ℕ → List ℕ
in_pairs text = flat_map (λ byte. byte ∷ 0 ∷ []) text

-- ---- runs of pairs

pub text_in_pairs : utf16_of (look_at (in_pairs (codes "Link http://a.b/")) 0) ≡ Some (codes "Link http://a.b/")
unfolding utf16_of utf16_extent utf16_value printable_class look_at
text_in_pairs = refl

pub pairs_7_are_none : utf16_extent (look_at (in_pairs (codes "seven p")) 0) ≡ None
unfolding utf16_extent printable_class look_at
pairs_7_are_none = refl

pub pairs_8_are_a_run : utf16_extent (look_at (in_pairs (codes "eight pa") ++ 10 ∷ 0 ∷ []) 0) ≡ Some 16
unfolding utf16_extent printable_class look_at
pairs_8_are_a_run = refl

-- the eighth pair lacks its zero byte
pub half_a_pair_is_none : utf16_extent (look_at (in_pairs (codes "seven p") ++ codes "a") 0) ≡ None
unfolding utf16_extent printable_class look_at
half_a_pair_is_none = refl

pub bytes_31_and_127_are_no_pairs :
    (pairs_in (31 ∷ 0 ∷ []) ≡ 0) × (pairs_in (32 ∷ 0 ∷ []) ≡ 1)
    × (pairs_in (126 ∷ 0 ∷ []) ≡ 1) × (pairs_in (127 ∷ 0 ∷ []) ≡ 0)
unfolding printable_class
bytes_31_and_127_are_no_pairs = (refl, refl, refl, refl)

-- high byte first is another encoding
pub zero_byte_ahead_is_no_pair : utf16_extent (look_at (0 ∷ in_pairs (codes "eight pa")) 0) ≡ None
unfolding utf16_extent printable_class look_at
zero_byte_ahead_is_no_pair = refl

pub no_run_begins_behind_a_pair : utf16_extent (look_at (in_pairs (codes "nine pair")) 2) ≡ None
unfolding utf16_extent printable_class look_at
no_run_begins_behind_a_pair = refl

-- one byte ahead is no pair, and two are none where the first doesn't print
pub run_behind_one_byte : utf16_extent (look_at (codes "x" ++ in_pairs (codes "eight pa")) 1) ≡ Some 16
unfolding utf16_extent printable_class look_at
run_behind_one_byte = refl

pub run_behind_a_line_break : utf16_extent (look_at (in_pairs (codes "\neight pa")) 2) ≡ Some 16
unfolding utf16_extent printable_class look_at
run_behind_a_line_break = refl

pub run_of_the_most_pairs : utf16_extent (look_at (in_pairs (replicate 4096 97)) 0) ≡ Some 8192
unfolding utf16_extent printable_class look_at
run_of_the_most_pairs = refl

pub pairs_past_the_most_are_left : utf16_extent (look_at (in_pairs (replicate 4097 97)) 0) ≡ Some 8192
unfolding utf16_extent printable_class look_at
pairs_past_the_most_are_left = refl

-- ---- XORed places

pub both_parts_are_xored :
    xored 255 (look_at (0 ∷ 1 ∷ 254 ∷ 255 ∷ []) 2)
    ≡ record { before = 255 ∷ 254 ∷ []; after = 1 ∷ 0 ∷ [] }
unfolding xored look_at
both_parts_are_xored = refl

pub mask_of_one_bit : xored 32 (look_at (codes "Http") 0) ≡ look_at (codes "hTTP") 0
unfolding xored look_at
mask_of_one_bit = refl
