-- Runs of word bytes: as far as they are seen, byte by byte, and where no word is.
use Rattle.std.proofs.Common.{◌≡◌, ◌≢◌, ◌∙◌, ℕ, zero, suc, ◌+◌, ◌-◌, ◌<◌, ◌≤◌, Bool, true, false, ◌&&◌, cond, List, [], ◌∷◌, length, take, drop, min, get_or, Some, None, refl, sym, ap, ◌⊎◌, inl, inr, arith, length-drop}
use Rattle.std.specs.List.{prefix_len}
use Rattle.std.specs.Prelude.{nat_eq, nat_le, slice_index, slice_get}
use Rattle.std.proofs.lemmas.Bool.{cases_lt, not-true, not-false, false≢true}
use Rattle.std.proofs.lemmas.Bool.Decides.{nat_tests}
use Rattle.std.proofs.lemmas.List.{get_or-drop, get_or-take, get_or_past, length-take}
use Rattle.std.proofs.lemmas.List.Sums.{prefix_len_passes, prefix_len_stops, prefix_len-le-length}
use Rattle.std.proofs.lemmas.Option.{slice_get-get_or}
use Rattle.byte_kit.specs.Classes.{word_class}
use Rattle.sbuf_nest.specs.Around.{Around, look_at}
use Rattle.sbuf_nest.specs.Edges.{begins_run}
use Rattle.sbuf_nest.specs.Marks.{NoneFrom}
use Rattle.sbuf_nest.specs.declared.look.TheConstants.{LOOK_BEFORE, LOOK_AFTER}
use Rattle.vector_search.specs.Places.{NoneIn, IsNext}
use Rattle.scan_wordlist.specs.Filter.{begins_row, is_stranger, AreInside}
use Rattle.scan_wordlist.specs.Marks.{word_marks}
use Rattle.scan_wordlist.specs.Word.{word_of, IsRunUpTo}

-- a run in the bytes as far as they are taken
pub prefix_len-take : (p : ℕ → Bool) (k : ℕ) (xs : List ℕ) → prefix_len p (take k xs) ≡ min k (prefix_len p xs)
prefix_len-take p zero xs = omega arith
prefix_len-take p (suc k) [] = omega arith
prefix_len-take p (suc k) (x ∷ xs) =
    elim (p x) as (λ b. cond b (1 + prefix_len p (take k xs)) 0 ≡ min (suc k) (cond b (1 + prefix_len p xs) 0))
    [ true ↦ omega (arith, prefix_len-take p k xs) | false ↦ omega arith ]

-- ---- byte by byte

ends_word : word_class 0 ≡ false
unfolding word_class
ends_word = refl

-- the byte behind so many in a row decides whether there is one more
one_more : (p : ℕ → Bool) (xs : List ℕ) (n : ℕ) → p 0 ≡ false → nat_le (n + 1) (prefix_len p xs) ≡ (nat_le n (prefix_len p xs) && p (get_or xs n 0))
one_more p xs n ends =
    elim (cases_lt n (prefix_len p xs)) [
      | inl more ↦ (let passes = prefix_len_passes p xs n 0 more in rw passes (grind (arith, nat_tests)))
      | inr less ↦ (
          elim (cases_lt (prefix_len p xs) n) [
            | inl few ↦ grind (arith, nat_tests)
            | inr same ↦ (
                let is : prefix_len p xs ≡ n = omega (arith, less, same) in
                let stops : p (get_or xs n 0) ≡ false = elim (cases_lt n (length xs))
                [ inl within ↦ ap (λ k. p (get_or xs k 0)) (sym is) ∙ prefix_len_stops p xs 0 (omega (arith, is, within)) | inr past ↦ ap p (get_or_past xs n 0 past) ∙ ends ] in
                rw stops (grind (arith, nat_tests))
                )
          ]
          )
    ]

-- so many word bytes and one more
pub row_more : (bytes : List ℕ) (count place : ℕ) →
    begins_row (count + 1) bytes place ≡ (begins_row count bytes place && word_class (get_or bytes (place + count) 0))
unfolding begins_row
row_more bytes count place =
    one_more word_class (drop place bytes) count ends_word
    ∙ ap (λ byte. nat_le count (prefix_len word_class (drop place bytes)) && word_class byte) (get_or-drop place bytes count 0)

-- one word byte
pub row_of_one : (bytes : List ℕ) (place : ℕ) → begins_row (0 + 1) bytes place ≡ word_class (get_or bytes place 0)
unfolding begins_row
row_of_one bytes place =
    let at : place + 0 ≡ place = omega arith in
    let none : nat_le 0 (prefix_len word_class (drop place bytes)) ≡ true = grind (arith, nat_tests) in
    row_more bytes 0 place ∙ ap (λ b. b && word_class (get_or bytes (place + 0) 0)) none ∙ ap (λ k. word_class (get_or bytes k 0)) at

-- the bytes end ahead of so many
pub no_room : (bytes : List ℕ) (count place : ℕ) → length (drop place bytes) < count → begins_row count bytes place ≡ false
unfolding begins_row
no_room bytes count place short =
    let few = prefix_len-le-length word_class (drop place bytes) in grind (arith, nat_tests)

-- the run that is seen in the first so many bytes: all of them, and then the next byte decides, or fewer
module _ (bytes rest : List ℕ) (count place run : ℕ) (behind : rest ≡ drop place bytes) (is : run ≡ prefix_len word_class (take count rest)) where
  row_seen : nat_eq run count ≡ begins_row count bytes place
  unfolding begins_row
  row_seen =
      let front : run ≡ min count (prefix_len word_class (drop place bytes)) =
      is ∙ prefix_len-take word_class count rest ∙ ap (λ xs. min count (prefix_len word_class xs)) behind in
      grind (arith, nat_tests)

  pub row_goes_on : run ≡ count → word_class (get_or rest count 0) ≡ begins_row (count + 1) bytes place
  row_goes_on all =
      let here : begins_row count bytes place ≡ true = sym row_seen ∙ grind (arith, nat_tests) in
      ap (λ xs. word_class (get_or xs count 0)) behind ∙ ap word_class (get_or-drop place bytes count 0)
      ∙ sym (row_more bytes count place ∙ ap (λ b. b && word_class (get_or bytes (place + count) 0)) here)

  pub row_broken : run ≢ count → false ≡ begins_row (count + 1) bytes place
  row_broken less =
      let here : begins_row count bytes place ≡ false = sym row_seen ∙ grind (arith, nat_tests) in
      sym (row_more bytes count place ∙ ap (λ b. b && word_class (get_or bytes (place + count) 0)) here)

-- so many are more than fewer
fewer : (bytes : List ℕ) (few many place : ℕ) → few ≤ many → begins_row few bytes place ≡ false → begins_row many bytes place ≡ false
unfolding begins_row
fewer bytes few many place le none = grind (arith, nat_tests)

pub none_fewer : (bytes : List ℕ) (few many from to : ℕ) → few ≤ many → NoneIn (begins_row few bytes) from to → NoneIn (begins_row many bytes) from to
none_fewer bytes few many from to le none place low high = fewer bytes few many place le (none place low high)

-- ---- the run of a place

-- the first stranger ends the run that stands in front
pub run_seen : (bytes : List ℕ) (near most run : ℕ) → near ≤ length bytes → most < near ⊎ (near ≡ length bytes) → IsNext (is_stranger bytes) 0 near run
    → IsRunUpTo most (prefix_len word_class bytes) run
unfolding is_stranger
run_seen bytes near most run within enough next =
    let whole = prefix_len-le-length word_class bytes in
    let long : run ≤ prefix_len word_class bytes = elim (cases_lt (prefix_len word_class bytes) run) [
      | inl ahead ↦ absurd (false≢true (sym (prefix_len_stops word_class bytes 0 (omega (arith, ahead, next.high, within)))
          ∙ not-false _ (next.before (prefix_len word_class bytes) (omega arith) ahead)))
      | inr h ↦ h
    ] in
    elim (cases_lt run near) [
      | inl inside ↦ inl (
          let stops = not-true (word_class (get_or bytes run 0)) (next.passes inside) in
          let short : prefix_len word_class bytes ≤ run = elim (cases_lt run (prefix_len word_class bytes))
          [ inl behind ↦ absurd (false≢true (sym stops ∙ prefix_len_passes word_class bytes run 0 behind)) | inr h ↦ h ] in
          omega (arith, long, short)
          )
      | inr end ↦ (
          elim enough [ inl far ↦ inr (omega (arith, long, far, end), omega (arith, far, end)) | inr all ↦ inl (omega (arith, long, whole, end, all)) ]
          )
    ]

-- ---- the word of a place

if_all : (a b c : Bool) (run : ℕ) → a ≡ true → b ≡ true → c ≡ true → (cond (a && b && c) (Some run) None) ≡ Some run
if_all a b c run p q r = rw (p, q, r) refl

if_not_begins : (a b c : Bool) (run : ℕ) → a ≡ false → (cond (a && b && c) (Some run) None) ≡ None
if_not_begins a b c run p = rw p refl

if_not_least : (a b c : Bool) (run : ℕ) → b ≡ false → (cond (a && b && c) (Some run) None) ≡ None
if_not_least true b c run p = rw p refl
if_not_least false b c run p = refl

if_not_most : (a b c : Bool) (run : ℕ) → c ≡ false → (cond (a && b && c) (Some run) None) ≡ None
if_not_most true true c run p = rw p refl
if_not_most true false c run p = refl
if_not_most false b c run p = refl

pub some_word : (least most run : ℕ) (look : Around) → begins_run word_class look ≡ true → prefix_len word_class look.after ≡ run → least ≤ run → run ≤ most
    → word_of least most look ≡ Some run
unfolding word_of
some_word least most run look begins is low high =
    let a : nat_le least run ≡ true = grind (arith, nat_tests) in
    let b : nat_le run most ≡ true = grind (arith, nat_tests) in
    rw is (if_all (begins_run word_class look) (nat_le least run) (nat_le run most) run begins a b)

pub short_run : (least most : ℕ) (look : Around) → prefix_len word_class look.after < least → word_of least most look ≡ None
unfolding word_of
short_run least most look low =
    let run = prefix_len word_class look.after in
    let a : nat_le least run ≡ false = grind (arith, nat_tests) in
    if_not_least (begins_run word_class look) (nat_le least run) (nat_le run most) run a

pub long_run : (least most : ℕ) (look : Around) → most < prefix_len word_class look.after → word_of least most look ≡ None
unfolding word_of
long_run least most look high =
    let run = prefix_len word_class look.after in
    let a : nat_le run most ≡ false = grind (arith, nat_tests) in
    if_not_most (begins_run word_class look) (nat_le least run) (nat_le run most) run a

pub within_run : (least most : ℕ) (look : Around) → begins_run word_class look ≡ false → word_of least most look ≡ None
unfolding word_of
within_run least most look begins =
    let run = prefix_len word_class look.after in
    if_not_begins (begins_run word_class look) (nat_le least run) (nat_le run most) run begins

-- ---- places without a word

-- too few word bytes stand in a row
few_in_row : (least most place : ℕ) (bytes : List ℕ) → begins_row least bytes place ≡ false → word_of least most (look_at bytes place) ≡ None
unfolding begins_row look_at
few_in_row least most place bytes none =
    let few : prefix_len word_class (drop place bytes) < least = grind (arith, nat_tests) in
    short_run least most (look_at bytes place) (omega (arith, few, prefix_len-take word_class LOOK_AFTER (drop place bytes)))

-- a word byte stands right ahead
byte_before : (bytes : List ℕ) (place reach : ℕ) → 0 < place → place ≤ length bytes → 0 < reach →
    let before = drop (place - reach) (take place bytes) in slice_get before (length before - 1) ≡ Some (get_or bytes (place - 1) 0)
byte_before bytes place reach some within far =
    let before = drop (place - reach) (take place bytes) in
    let long = length-drop (place - reach) (take place bytes) in
    let taken = length-take place bytes in
    let last : place - reach + (length before - 1) ≡ place - 1 = omega (arith, long, taken) in
    slice_get-get_or before (length before - 1) 0 (omega (arith, long, taken))
    ∙ ap (λ byte. Some byte)
    (get_or-drop (place - reach) (take place bytes) (length before - 1) 0 ∙ ap (λ k. get_or (take place bytes) k 0) last ∙ get_or-take place bytes (place - 1) 0 (omega arith))

inside : (least most place : ℕ) (bytes : List ℕ) → 0 < place → place ≤ length bytes → word_class (slice_index bytes (place - 1)) ≡ true
    → word_of least most (look_at bytes place) ≡ None
unfolding look_at
inside least most place bytes some within passes =
    within_run least most (look_at bytes place) (rw (byte_before bytes place LOOK_BEFORE some within (omega arith)) (rw passes refl))

-- none inside a run, and none where too few stand in a row
pub none_passed : (least most next from to : ℕ) (bytes : List ℕ) → to ≤ length bytes → AreInside bytes next from → NoneIn (begins_row least bytes) from to
    → NoneFrom (word_marks least most) bytes next to
none_passed least most next from to bytes within are none place low high =
    let no_word : word_of least most (look_at bytes place) ≡ None = elim (cases_lt place from)
    [ inl ahead ↦ (let h = are place low ahead in inside least most place bytes h.0 (omega arith) h.1) | inr behind ↦ few_in_row least most place bytes (none place behind high) ] in
    rw no_word refl

-- what is inside a run that goes on to a place
pub inside_to : (bytes : List ℕ) (next end : ℕ) → 0 < next → word_class (slice_index bytes (next - 1)) ≡ true → NoneIn (is_stranger bytes) next end
    → AreInside bytes next end
unfolding is_stranger
inside_to bytes next end some first none place low high = (
  omega arith,
  elim (cases_lt next place) [
    | inl behind ↦ not-false (word_class (slice_index bytes (place - 1))) (none (place - 1) (omega arith) (omega arith))
    | inr here ↦ (
        let e : place ≡ next = omega arith in rw e first)
  ],
)
