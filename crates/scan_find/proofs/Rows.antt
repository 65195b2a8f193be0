-- Worked examples of keywords and patterns.
use Rattle.std.specs.Prelude.{ℕ, ◌≡◌, ◌==◌, refl, List, length, replicate, codes, Option, Some, None, if◌then◌else◌}
use Rattle.std.specs.List.{prefix_len}
use Rattle.sbuf_nest.specs.Around.{look_at}
use Rattle.scan_find.specs.Find.{keyword_of, pattern_of}

-- ---- keywords

pub keyword_at_the_end : keyword_of (codes "aab") (look_at (codes "xaab") 1) ≡ Some 3
unfolding keyword_of look_at
keyword_at_the_end = refl

pub last_byte_of_the_keyword_is_missing : keyword_of (codes "aab") (look_at (codes "xaa") 1) ≡ None
unfolding keyword_of look_at
last_byte_of_the_keyword_is_missing = refl

pub no_keyword_one_byte_ahead : keyword_of (codes "aab") (look_at (codes "xaab") 0) ≡ None
unfolding keyword_of look_at
no_keyword_one_byte_ahead = refl

pub case_counts : keyword_of (codes "aab") (look_at (codes "xAAB") 1) ≡ None
unfolding keyword_of look_at
case_counts = refl

pub keywords_overlap :
    (keyword_of (codes "aa") (look_at (codes "aaa") 0) ≡ Some 2)
    × (keyword_of (codes "aa") (look_at (codes "aaa") 1) ≡ Some 2)
    × (keyword_of (codes "aa") (look_at (codes "aaa") 2) ≡ None)
unfolding keyword_of look_at
keywords_overlap = (refl, refl, refl)

-- ---- patterns

-- one `a` or more
abbrev run_of_a : List ℕ → Option ℕ
run_of_a bytes =
    let run = prefix_len (λ byte. byte == 97) bytes in
    if run == 0 then None else Some run

-- each byte that it sees
abbrev all_bytes : List ℕ → Option ℕ
all_bytes bytes = Some (length bytes)

pub pattern_at_each_place :
    (pattern_of run_of_a (look_at (codes "xaab") 0) ≡ None)
    × (pattern_of run_of_a (look_at (codes "xaab") 1) ≡ Some 2)
    × (pattern_of run_of_a (look_at (codes "xaab") 2) ≡ Some 1)
    × (pattern_of run_of_a (look_at (codes "xaab") 3) ≡ None)
unfolding pattern_of look_at
pattern_at_each_place = (refl, refl, refl, refl)

pub match_without_bytes_is_none : pattern_of (λ bytes. Some 0) (look_at (codes "xaab") 0) ≡ None
unfolding pattern_of look_at
match_without_bytes_is_none = refl

pub match_of_one_byte : pattern_of (λ bytes. Some 1) (look_at (codes "xaab") 3) ≡ Some 1
unfolding pattern_of look_at
match_of_one_byte = refl

pub pattern_sees_255_bytes : pattern_of all_bytes (look_at (replicate 255 97) 0) ≡ Some 255
unfolding pattern_of look_at
pattern_sees_255_bytes = refl

pub pattern_sees_256_bytes : pattern_of all_bytes (look_at (replicate 257 97) 0) ≡ Some 256
unfolding pattern_of look_at
pattern_sees_256_bytes = refl

pub pattern_sees_nothing_ahead : pattern_of all_bytes (look_at (codes "xaab") 1) ≡ Some 3
unfolding pattern_of look_at
pattern_sees_nothing_ahead = refl
