-- Lists of texts: what holds of each, how long they are, and how they are read back.
use Rattle.std.proofs.Common.{ℕ, zero, suc, ◌≡◌, ◌+◌, ◌-◌, ◌*◌, ◌<◌, ◌≤◌, ◌^◌, Bool, true, false, ◌&&◌, List, [], ◌∷◌, ◌++◌, length, take, drop, refl, sym, ap, ◌∙◌, append_assoc, length-append, arith}
use Rattle.std.specs.List.{All, flat_map, list_all}
use Rattle.std.proofs.lemmas.Bool.Decides.{nat_tests}
use Rattle.std.proofs.lemmas.List.{take_at, drop_at}
use Rattle.byte_kit.specs.Numbers.{le16, le64, le16_bytes, le64_bytes}
use Rattle.scan_settings.specs.Values.{is_text}
use Rattle.scan_settings.specs.Lawful.{IsText}
use Rattle.scan_settings.specs.Record.{text_bytes, texts_bytes}
use Rattle.scan_settings.specs.Fields.{texts_at, behind_texts}

-- ---- each text

pub all_push : {A : Type 0} (P : A → Type 0) (xs : List A) (x : A) → All P xs → P x → All P (xs ++ x ∷ [])
all_push P [] x all this zero d within = this
all_push P [] x all this (suc k) d within = absurd (omega (arith, within))
all_push P (y ∷ ys) x all this zero d within = all zero d (omega arith)
all_push P (y ∷ ys) x all this (suc k) d within = all_push P ys x (λ j e lt. all (suc j) e (omega (arith, lt))) this k d (omega (arith, within))

rest_all : {A : Type 0} (P : A → Type 0) (x : A) (xs : List A) → All P (x ∷ xs) → All P xs
rest_all P x xs all k d within = all (suc k) d (omega (arith, within))

first_all : {A : Type 0} (P : A → Type 0) (x : A) (xs : List A) → All P (x ∷ xs) → P x
first_all P x xs all = all zero x (omega arith)

pub both : (a b : Bool) → a && b ≡ true → (a ≡ true) × (b ≡ true)
both true b is = (refl, is)
both false b is = cc

text_is : (text : List ℕ) → is_text text ≡ true → IsText text
text_is text is = (grind (arith, nat_tests, is), grind (arith, nat_tests, is))

is_of : (text : List ℕ) → IsText text → is_text text ≡ true
is_of text is = grind (arith, nat_tests, is.0, is.1)

pub texts_pass : (texts : List (List ℕ)) → list_all is_text texts ≡ true → All IsText texts
texts_pass [] is k d within = absurd (omega (arith, within))
texts_pass (text ∷ texts) is zero d within = text_is text (both (is_text text) (list_all is_text texts) is).0
texts_pass (text ∷ texts) is (suc k) d within = texts_pass texts (both (is_text text) (list_all is_text texts) is).1 k d (omega (arith, within))

pub pass_texts : (texts : List (List ℕ)) → All IsText texts → list_all is_text texts ≡ true
pass_texts [] all = refl
pass_texts (text ∷ texts) all = rw (is_of text (first_all IsText text texts all), pass_texts texts (rest_all IsText text texts all)) refl

-- ---- how long texts are

all_short : (texts : List (List ℕ)) → All IsText texts → length (flat_map text_bytes texts) ≤ 258 * length texts
all_short [] all = omega arith
all_short (text ∷ texts) all =
    let this = first_all IsText text texts all in
    let others = all_short texts (rest_all IsText text texts all) in
    let size = length-append (text_bytes text) (flat_map text_bytes texts) in
    omega (arith, this.1, others, size)

pub body_short : (front : List ℕ) (keywords patterns : List (List ℕ)) → length front ≤ 64 → All IsText keywords → length keywords ≤ 64 → All IsText patterns →
    length patterns ≤ 4 → length (front ++ texts_bytes keywords ++ texts_bytes patterns) < 2 ^ 32
body_short front keywords patterns small k few_k p few_p =
    let one = length-append (front ++ texts_bytes keywords) (texts_bytes patterns) in
    let two = length-append front (texts_bytes keywords) in
    let three = all_short keywords k in
    let four = all_short patterns p in
    omega (arith, one, two, three, four)

-- ---- texts read back

pub le16_cells : (n : ℕ) → n < 2 ^ 16 → le16 (le16_bytes n) 0 ≡ n
le16_cells n small = omega arith

pub le64_cells : (n : ℕ) → n < 2 ^ 64 → le64 (le64_bytes n) 0 ≡ n
le64_cells n small = omega arith

front_back : (n : ℕ) (text others rest : List ℕ) → n ≡ length text → take n ((text ++ others) ++ rest) ≡ text
front_back n text others rest is = rw (append_assoc text others rest) (take_at text (others ++ rest) n (sym is))

others_back : (n : ℕ) (text others rest : List ℕ) → n ≡ length text → drop n ((text ++ others) ++ rest) ≡ others ++ rest
others_back n text others rest is = rw (append_assoc text others rest) (drop_at text (others ++ rest) n (sym is))

one_back : (n : ℕ) (text others rest : List ℕ) (count : ℕ) (texts : List (List ℕ)) → n ≡ length text → texts_at count (others ++ rest) ≡ texts →
    take n ((text ++ others) ++ rest) ∷ texts_at count (drop n ((text ++ others) ++ rest)) ≡ text ∷ texts
one_back n text others rest count texts is back = rw (front_back n text others rest is, others_back n text others rest is, back) refl

pub texts_back : (texts : List (List ℕ)) (rest : List ℕ) → All IsText texts → texts_at (length texts) (flat_map text_bytes texts ++ rest) ≡ texts
unfolding texts_at
texts_back [] rest all = refl
texts_back (text ∷ texts) rest all =
    let this = first_all IsText text texts all in
    one_back (le16 (le16_bytes (length text)) 0) text (flat_map text_bytes texts) rest (length texts) texts (le16_cells (length text) (omega (arith, this.1)))
    (texts_back texts rest (rest_all IsText text texts all))

pub behind_back : (texts : List (List ℕ)) (rest : List ℕ) → All IsText texts → behind_texts (length texts) (flat_map text_bytes texts ++ rest) ≡ rest
unfolding behind_texts
behind_back [] rest all = refl
behind_back (text ∷ texts) rest all =
    let this = first_all IsText text texts all in
    ap (behind_texts (length texts)) (others_back (le16 (le16_bytes (length text)) 0) text (flat_map text_bytes texts) rest (le16_cells (length text) (omega (arith, this.1))))
    ∙ behind_back texts rest (rest_all IsText text texts all)

-- ---- text by text

pub texts_turn : (count turn : ℕ) (bytes : List ℕ) → turn < count →
    texts_at (count - turn) bytes ≡ take (le16 bytes 0) (drop 2 bytes) ∷ texts_at (count - (turn + 1)) (drop (le16 bytes 0) (drop 2 bytes))
unfolding texts_at
texts_turn count turn bytes within = let e : count - turn ≡ suc (count - (turn + 1)) = omega arith in rw e refl

pub behind_turn : (count turn : ℕ) (bytes : List ℕ) → turn < count →
    behind_texts (count - turn) bytes ≡ behind_texts (count - (turn + 1)) (drop (le16 bytes 0) (drop 2 bytes))
unfolding behind_texts
behind_turn count turn bytes within = let e : count - turn ≡ suc (count - (turn + 1)) = omega arith in rw e refl

pub texts_end : (count turn : ℕ) (bytes : List ℕ) → count ≤ turn → texts_at (count - turn) bytes ≡ []
unfolding texts_at
texts_end count turn bytes over = let e : count - turn ≡ 0 = omega arith in rw e refl

pub behind_end : (count turn : ℕ) (bytes : List ℕ) → count ≤ turn → behind_texts (count - turn) bytes ≡ bytes
unfolding behind_texts
behind_end count turn bytes over = let e : count - turn ≡ 0 = omega arith in rw e refl

pub texts_more : (count turn : ℕ) (rest next : List ℕ) (texts more : List (List ℕ)) (text : List ℕ) → turn < count →
    next ≡ drop (le16 rest 0) (drop 2 rest) → text ≡ take (le16 rest 0) (drop 2 rest) → more ≡ texts ++ text ∷ [] →
    texts ++ texts_at (count - turn) rest ≡ more ++ texts_at (count - (turn + 1)) next
texts_more count turn rest next texts more text within next_is text_is more_is =
    rw (more_is, text_is, next_is)
    (ap (λ (all : List (List ℕ)). texts ++ all) (texts_turn count turn rest within)
    ∙ sym (append_assoc texts (take (le16 rest 0) (drop 2 rest) ∷ []) (texts_at (count - (turn + 1)) (drop (le16 rest 0) (drop 2 rest)))))
