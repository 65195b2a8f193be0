-- The lines of a text, taken one by one.
use Rattle.std.proofs.Common.{◌≡◌, ◌∙◌, ℕ, zero, suc, ◌+◌, ◌-◌, ◌<◌, ◌≤◌, ◌==◌, min, List, [], ◌∷◌, length, drop, refl, sym, ap, arith, inl, inr, length-drop, Option, Some, None}
use Rattle.std.specs.Prelude.{MatchOption, if◌then◌else◌}
use Rattle.std.specs.List.{prefix_len}
use Rattle.std.specs.Option.{option_map_or}
use Rattle.std.proofs.lemmas.Bool.{cases_lt, cases_eq, eq-eqb, ne_eqb}
use Rattle.std.proofs.lemmas.List.{drop-drop}
use Rattle.byte_kit.specs.Classes.{base64_class}
use Rattle.decode_base64.specs.Base64.{Line, next_line, line_extent, lines_extent, text_extent}
use Rattle.decode_base64.specs.Text.{IsNextLine}
use Rattle.decode_base64.specs.declared.TheConstants.{LETTERS_MOST}

-- ---- no line, and no room

map_or_same : (o : Option Line) (f g : Line → ℕ) → ((line : Line) → f line ≡ g line) → option_map_or f o 0 ≡ option_map_or g o 0
map_or_same None f g same = refl
map_or_same (Some line) f g same = same line

map_or_zero : (o : Option Line) (f : Line → ℕ) → ((line : Line) → f line ≡ 0) → option_map_or f o 0 ≡ 0
map_or_zero None f none = refl
map_or_zero (Some line) f none = none line

-- where no letter may be taken no line is
pub no_room : (most width : ℕ) (bytes : List ℕ) → lines_extent most width 0 bytes ≡ 0
no_room zero width bytes = refl
no_room (suc most) width bytes = map_or_zero (next_line bytes) _ (λ line. refl)

-- ---- as many lines as there may be are enough

pub enough_lines : (m n width room : ℕ) (bytes : List ℕ) → 1 ≤ width → length bytes ≤ m → length bytes ≤ n → lines_extent m width room bytes ≡ lines_extent n width room bytes
enough_lines zero zero width room bytes some far near = refl
enough_lines zero (suc n) width room [] some far near = refl
enough_lines zero (suc n) width room (x ∷ bytes) some far near = absurd (omega (arith, far))
enough_lines (suc m) zero width room [] some far near = refl
enough_lines (suc m) zero width room (x ∷ bytes) some far near = absurd (omega (arith, near))
enough_lines (suc m) (suc n) width room bytes some far near =
    map_or_same (next_line bytes) _ _ (λ line.
    let rest = drop (line.ahead + width) bytes in
    let short = length-drop (line.ahead + width) bytes in
    ap (line_extent width room line) (enough_lines m n width (room - width) rest some (omega (arith, short, far, some)) (omega (arith, short, near, some))))

-- ---- one line

if_same : (a b x y : ℕ) → a ≡ b → (if a == b then x else y) ≡ x
if_same a b x y is = rw (eq-eqb a b is) refl

if_other : (a b x y : ℕ) → (a ≡ b → ⊥) → (if a == b then x else y) ≡ y
if_other a b x y is = rw (ne_eqb a b is) refl

-- a line that is cut to the width of the others takes all the room
line_over : (letters room width : ℕ) → min letters room ≡ width → (letters ≡ width → ⊥) → room ≤ min letters room
line_over letters room width cut other = elim (cases_lt letters room) [
  | inl near ↦ absurd (other (omega (arith, cut, near)))
  | inr far ↦ omega (arith, far)
]

module _ (most width room : ℕ) (bytes : List ℕ) (some : 1 ≤ width) (left : 1 ≤ room) (fits : length bytes ≤ suc most) where
  abbrev rest_of : ℕ → ℕ
  rest_of ahead = lines_extent most width (room - width) (drop (ahead + width) bytes)

  -- what a line covers, and those behind it
  abbrev pub behind_line : ℕ → ℕ → ℕ
  behind_line covered letters = if letters == width then lines_extent (suc most) width (room - letters) (drop covered bytes) else 0

  line_taken : (line : Line) → line_extent width room line (rest_of line.ahead)
      ≡ line.ahead + min line.letters room + behind_line (line.ahead + min line.letters room) (min line.letters room)
  line_taken line =
      let ahead = line.ahead in
      let k = min line.letters room in
      let behind = lines_extent (suc most) width (room - k) (drop (ahead + k) bytes) in
      let open_room : (if room == 0 then 0 else ahead + k + (if line.letters == width then rest_of ahead else 0)) ≡ ahead + k + (if line.letters == width then rest_of ahead else 0) =
      if_other room 0 0 _ (λ e. absurd (omega (arith, e, left))) in
      open_room ∙ ap (λ more. ahead + k + more) (elim (cases_eq line.letters width) [
        | inl same ↦ if_same line.letters width (rest_of ahead) 0 same ∙ (elim (cases_lt room line.letters) [
          | inl over ↦ (
              let none : room - width ≡ 0 = omega (arith, same, over) in
              ap (λ r. lines_extent most width r (drop (ahead + width) bytes)) none ∙ no_room most width (drop (ahead + width) bytes)
              ∙ sym (if_other k width behind 0 (λ e. absurd (omega (arith, e, same, over)))))
          | inr all ↦ (
              let e : k ≡ width = omega (arith, same, all) in
              let short = length-drop (ahead + width) bytes in
              enough_lines most (suc most) width (room - width) (drop (ahead + width) bytes) some (omega (arith, short, fits, some)) (omega (arith, short, fits))
              ∙ sym (if_same k width behind 0 e ∙ ap (λ j. lines_extent (suc most) width (room - j) (drop (ahead + j) bytes)) e))
        ])
        | inr other ↦ if_other line.letters width (rest_of ahead) 0 other ∙ (elim (cases_eq k width) [
          | inl cut ↦ (
              let none : room - k ≡ 0 = omega (arith, cut, line_over line.letters room width cut other) in
              sym (if_same k width behind 0 cut ∙ ap (λ r. lines_extent (suc most) width r (drop (ahead + k) bytes)) none ∙ no_room (suc most) width (drop (ahead + k) bytes)))
          | inr differs ↦ sym (if_other k width behind 0 differs)
        ])
      ])

  pub line_step : (covered letters : ℕ) → IsNextLine bytes room covered letters → lines_extent (suc most) width room bytes ≡ covered + behind_line covered letters
  line_step covered letters is = go (next_line bytes) is
    where
      go : (o : Option Line) → MatchOption o ((covered ≡ 0) × (letters ≡ 0)) (λ (line : Line). (covered ≡ line.ahead + min line.letters room) × (letters ≡ min line.letters room))
          → option_map_or (λ (line : Line). line_extent width room line (rest_of line.ahead)) o 0 ≡ covered + behind_line covered letters
      go None h = omega (arith, h.0, if_other letters width (lines_extent (suc most) width (room - letters) (drop covered bytes)) 0 (λ e. absurd (omega (arith, e, h.1, some))))
      go (Some line) h = rw (h.0, h.1) (line_taken line)

-- ---- the lines of a text

-- what stands behind the first line
pub first_line : (bytes : List ℕ) (width : ℕ) → width ≡ min (prefix_len base64_class bytes) LETTERS_MOST → 1 ≤ width →
    text_extent bytes ≡ width + (if width == width then lines_extent (suc (length bytes)) width (LETTERS_MOST - width) (drop width bytes) else 0)
first_line bytes width first some =
    let run = prefix_len base64_class bytes in
    let all = lines_extent (suc (length bytes)) width (LETTERS_MOST - width) (drop width bytes) in
    let shown = if_same width width all 0 refl in
    elim (cases_lt LETTERS_MOST run) [
      | inl over ↦ (
          let full : LETTERS_MOST - width ≡ 0 = omega (arith, first, over) in
          let none : LETTERS_MOST - run ≡ 0 = omega (arith, over) in
          let left = ap (λ r. lines_extent (length bytes) run r (drop run bytes)) none ∙ no_room (length bytes) run (drop run bytes) in
          let right = ap (λ r. lines_extent (suc (length bytes)) width r (drop width bytes)) full ∙ no_room (suc (length bytes)) width (drop width bytes) in
          omega (arith, left, right, shown, first))
      | inr within ↦ (
          let e : run ≡ width = omega (arith, first, within) in
          let same = ap (λ w. lines_extent (length bytes) w (LETTERS_MOST - w) (drop w bytes)) e
          ∙ enough_lines (length bytes) (suc (length bytes)) width (LETTERS_MOST - width) (drop width bytes) some (omega (arith, length-drop width bytes)) (omega (arith, length-drop width bytes)) in
          omega (arith, same, shown, first))
    ]

-- one line more
pub line_more : (bytes : List ℕ) (width last end letters covered more : ℕ) → 1 ≤ width → last ≡ width → letters < LETTERS_MOST →
    text_extent bytes ≡ end + (if last == width then lines_extent (suc (length bytes)) width (LETTERS_MOST - letters) (drop end bytes) else 0) →
    IsNextLine (drop end bytes) (LETTERS_MOST - letters) covered more →
    text_extent bytes ≡ end + covered + (if more == width then lines_extent (suc (length bytes)) width (LETTERS_MOST - (letters + more)) (drop (end + covered) bytes) else 0)
line_more bytes width last end letters covered more some same left text is =
    let room = LETTERS_MOST - letters in
    let here = lines_extent (suc (length bytes)) width room (drop end bytes) in
    let step = line_step (length bytes) width room (drop end bytes) some (omega (arith, left)) (omega (arith, length-drop end bytes)) covered more is in
    let e : room - more ≡ LETTERS_MOST - (letters + more) = omega arith in
    let moved : behind_line (length bytes) width room (drop end bytes) some (omega (arith, left)) (omega (arith, length-drop end bytes)) covered more
    ≡ (if more == width then lines_extent (suc (length bytes)) width (LETTERS_MOST - (letters + more)) (drop (end + covered) bytes) else 0) =
    ap (λ r. if more == width then lines_extent (suc (length bytes)) width r (drop covered (drop end bytes)) else 0) e
    ∙ ap (λ rest. if more == width then lines_extent (suc (length bytes)) width (LETTERS_MOST - (letters + more)) rest else 0) (drop-drop covered end bytes) in
    omega (arith, text, if_same last width here 0 same, step, moved)
