-- How many letters a line holds, and how far a text goes.
use Rattle.std.proofs.Common.{◌≡◌, ◌∙◌, ℕ, zero, suc, ◌+◌, ◌-◌, ◌≤◌, ◌==◌, ◌||◌, min, nat_eq, Bool, true, false, cond, List, [], ◌∷◌, ◌++◌, length, take, drop, codes, refl, ap, arith, inl, inr, filter, length-drop, Option, Some, None}
use Rattle.std.specs.Prelude.{MatchOption, find, if◌then◌else◌}
use Rattle.std.specs.List.{prefix_len, starts_with}
use Rattle.std.specs.Option.{option_map_or}
use Rattle.std.proofs.lemmas.Bool.{cases_eq, eq-eqb, ne_eqb}
use Rattle.std.proofs.lemmas.Bool.Decides.{Decides-eqb}
use Rattle.std.proofs.lemmas.List.{length-append}
use Rattle.std.proofs.lemmas.List.Elements.{filter-append}
use Rattle.std.proofs.lemmas.List.Sums.{prefix_len-le-length}
use Rattle.std.proofs.lemmas.Slice.Eq.{starts_is}
use Rattle.byte_kit.specs.Classes.{base64_class}
use Rattle.decode_base64.specs.Base64.{Line, line_breaks, line_extent, lines_extent, text_extent}
use Rattle.decode_base64.specs.Text.{letter_count, IsNextLine}

-- ---- letters of two parts

take_none : (m : ℕ) → ◌≡◌ {A = List ℕ} [] (take m [])
take_none zero = refl
take_none (suc m) = refl

pub take_plus : (n m : ℕ) (xs : List ℕ) → take (n + m) xs ≡ take n xs ++ take m (drop n xs)
take_plus zero m xs =
    let e : 0 + m ≡ m = omega arith in
    rw e refl
take_plus (suc n) m [] =
    let e : suc n + m ≡ suc (n + m) = omega arith in
    rw e (take_none m)
take_plus (suc n) m (x ∷ xs) =
    let e : suc n + m ≡ suc (n + m) = omega arith in
    rw e (ap (λ rest. x ∷ rest) (take_plus n m xs))

pub letters_of_two : (n m : ℕ) (xs : List ℕ) → letter_count (take (n + m) xs) ≡ letter_count (take n xs) + letter_count (take m (drop n xs))
letters_of_two n m xs =
    ap letter_count (take_plus n m xs)
    ∙ ap length (filter-append base64_class (take n xs) (take m (drop n xs)))
    ∙ length-append (filter base64_class (take n xs)) (filter base64_class (take m (drop n xs)))

-- the first bytes of a run are letters
one_letter : (x k : ℕ) (xs : List ℕ) (b : Bool) → suc k ≤ cond b (1 + prefix_len base64_class xs) 0 → (k ≤ prefix_len base64_class xs → letter_count (take k xs) ≡ k)
    → length (cond b (x ∷ filter base64_class (take k xs)) (filter base64_class (take k xs))) ≡ suc k
one_letter x k xs true within rest = omega (arith, rest (omega (arith, within)))
one_letter x k xs false within rest = absurd (omega (arith, within))

pub letters_of_run : (xs : List ℕ) (k : ℕ) → k ≤ prefix_len base64_class xs → letter_count (take k xs) ≡ k
letters_of_run xs zero within = refl
letters_of_run [] (suc k) within = absurd (omega (arith, within))
letters_of_run (x ∷ xs) (suc k) within = one_letter x k xs (base64_class x) within (letters_of_run xs k)

-- ---- line breaks

abbrev pub break_of : List ℕ → ℕ
break_of bytes = option_map_or length (find (starts_with nat_eq bytes) line_breaks) 0

-- no letter stands in a line break
no_letter : (bytes : List ℕ) (t u : Bool) → (t ≡ true → bytes ≡ codes "\n" ++ drop 1 bytes) → (u ≡ true → bytes ≡ codes "\r\n" ++ drop 2 bytes)
    → letter_count (take (option_map_or length (cond t (Some (codes "\n")) (cond u (Some (codes "\r\n")) None)) 0) bytes) ≡ 0
unfolding base64_class
no_letter bytes true u one two = ap (λ xs. letter_count (take 1 xs)) (one refl)
no_letter bytes false true one two = ap (λ xs. letter_count (take 2 xs)) (two refl)
no_letter bytes false false one two = refl

-- it lies within the bytes
short_break : (bytes : List ℕ) (t u : Bool) → (t ≡ true → bytes ≡ codes "\n" ++ drop 1 bytes) → (u ≡ true → bytes ≡ codes "\r\n" ++ drop 2 bytes)
    → option_map_or length (cond t (Some (codes "\n")) (cond u (Some (codes "\r\n")) None)) 0 ≤ length bytes
short_break bytes true u one two = omega (arith, ap length (one refl))
short_break bytes false true one two = omega (arith, ap length (two refl))
short_break bytes false false one two = omega arith

begins_so : (bytes line_break : List ℕ) → starts_with nat_eq bytes line_break ≡ true → bytes ≡ line_break ++ drop (length line_break) bytes
begins_so bytes line_break is = (starts_is Decides-eqb bytes line_break (starts_with nat_eq bytes line_break) refl).0 is

pub break_letters : (bytes : List ℕ) → letter_count (take (break_of bytes) bytes) ≡ 0
break_letters bytes =
    no_letter bytes (starts_with nat_eq bytes (codes "\n")) (starts_with nat_eq bytes (codes "\r\n")) (begins_so bytes (codes "\n")) (begins_so bytes (codes "\r\n"))

pub break_within : (bytes : List ℕ) → break_of bytes ≤ length bytes
break_within bytes =
    short_break bytes (starts_with nat_eq bytes (codes "\n")) (starts_with nat_eq bytes (codes "\r\n")) (begins_so bytes (codes "\n")) (begins_so bytes (codes "\r\n"))

-- ---- lines

module _ (bytes : List ℕ) where
  abbrev run_behind : ℕ
  run_behind = prefix_len base64_class (drop (break_of bytes) bytes)

  abbrev line_if : Bool → Option Line
  line_if none = if none then None else Some (record { ahead = break_of bytes; letters = run_behind })

  taken_letters : (room covered letters : ℕ) (none : Bool) → MatchOption (line_if none) ((covered ≡ 0) × (letters ≡ 0))
      (λ (line : Line). (covered ≡ line.ahead + min line.letters room) × (letters ≡ min line.letters room))
      → letter_count (take covered bytes) ≡ letters
  taken_letters room covered letters true h = rw (h.0, h.1) refl
  taken_letters room covered letters false h =
      ap (λ n. letter_count (take n bytes)) h.0
      ∙ letters_of_two (break_of bytes) (min run_behind room) bytes
      ∙ omega (arith, h.1, break_letters bytes, letters_of_run (drop (break_of bytes) bytes) (min run_behind room) (omega arith))

  -- a line holds as many letters as are taken of it
  pub line_letters : (room covered letters : ℕ) → IsNextLine bytes room covered letters → letter_count (take covered bytes) ≡ letters
  line_letters room covered letters is = taken_letters room covered letters ((break_of bytes == 0) || (run_behind == 0)) is

  -- a line, and what follows it, lies within the bytes
  line_within : (width room : ℕ) (behind : ℕ → ℕ) → ((ahead : ℕ) → behind ahead ≤ length bytes - (ahead + width)) → (none : Bool)
      → option_map_or (λ (line : Line). line_extent width room line (behind line.ahead)) (line_if none) 0 ≤ length bytes
  line_within width room behind rest true = omega arith
  line_within width room behind rest false =
      let ahead = break_of bytes in
      let long : run_behind ≤ length bytes - ahead = omega (arith, prefix_len-le-length base64_class (drop ahead bytes), length-drop ahead bytes) in
      let inside = break_within bytes in
      let near = rest ahead in
      elim (cases_eq room 0) [
        | inl none ↦ (let e = eq-eqb room 0 none in rw e (omega arith))
        | inr some ↦ (let e = ne_eqb room 0 some in rw e (elim (cases_eq run_behind width) [
          | inl same ↦ (let f = eq-eqb run_behind width same in rw f (omega (arith, long, inside, near, same)))
          | inr other ↦ (let f = ne_eqb run_behind width other in rw f (omega (arith, long, inside)))
        ]))
      ]

-- the lines of a text lie within the bytes
lines_within : (most width room : ℕ) (bytes : List ℕ) → lines_extent most width room bytes ≤ length bytes
lines_within zero width room bytes = omega arith
lines_within (suc most) width room bytes =
    line_within bytes width room (λ ahead. lines_extent most width (room - width) (drop (ahead + width) bytes))
    (λ ahead. omega (arith, lines_within most width (room - width) (drop (ahead + width) bytes), length-drop (ahead + width) bytes))
    ((break_of bytes == 0) || (run_behind bytes == 0))

pub text_within : (bytes : List ℕ) → text_extent bytes ≤ length bytes
text_within bytes =
    let width = prefix_len base64_class bytes in
    omega (arith, prefix_len-le-length base64_class bytes, lines_within (length bytes) width (65536 - width) (drop width bytes), length-drop width bytes)
