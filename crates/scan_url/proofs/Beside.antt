-- Every URL and every domain stands beside a `://`.
use Rattle.std.proofs.Common.{◌≡◌, ◌∙◌, ℕ, zero, suc, ◌+◌, ◌-◌, ◌<◌, ◌≤◌, Bool, true, false, List, [], ◌∷◌, length, take, drop, get_or, sym, ap, subst, refl, arith, None, min, inl, inr, ⊎_elim, codes}
use Rattle.std.specs.Prelude.{◌==◌}
use Rattle.std.specs.Char.{to_ascii_lowercase}
use Rattle.std.proofs.lemmas.Bool.{and_parts, eqb-true, leb-true, cases_lt, false≢true}
use Rattle.std.proofs.lemmas.List.{get_or-take, get_or-drop, get_or_past, length-take, length-drop}
use Rattle.sbuf_nest.specs.Around.{Around, look_at}
use Rattle.sbuf_nest.specs.declared.look.TheConstants.{LOOK_BEFORE, LOOK_AFTER}
use Rattle.scan_url.specs.Url.{starts_caseless, scheme_of, url_of}
use Rattle.scan_url.specs.Domain.{ends_caseless, ends_with_scheme, domain_of}
use Rattle.scan_url.specs.Marks.{url_marks}
use Rattle.scan_url.specs.SchemeEnd.{may_end_scheme, ends_scheme, EndsScheme, NoSchemeEnd}
use Rattle.vector_search.specs.Places.{NoneIn}
use Rattle.scan_url.specs.declared.find.TheConstants.{END_BYTES, NAME_LEAST, NAME_MOST}

-- `://` stands at the place
pub record HasMark (bytes : List ℕ) (at : ℕ) : Type 0 where
  pub colon : get_or bytes at 0 ≡ 58
  pub first : get_or bytes (at + 1) 0 ≡ 47
  pub second : get_or bytes (at + 2) 0 ≡ 47

-- a letter of the word is the byte's lower case
letter_at : (word bytes : List ℕ) (j : ℕ) → starts_caseless word bytes ≡ true → j < length word →
    to_ascii_lowercase (get_or bytes j 0) ≡ get_or word j 0
letter_at [] bytes j starts below = absurd (omega arith)
letter_at (letter ∷ word) [] j starts below = cc
letter_at (letter ∷ word) (byte ∷ bytes) zero starts below = eqb-true _ _ (and_parts _ _ starts).0
letter_at (letter ∷ word) (byte ∷ bytes) (suc j) starts below = letter_at word bytes j (and_parts _ _ starts).1 (omega arith)

-- what is no letter has no other case
no_letter : (byte : ℕ) (mark : ℕ) → to_ascii_lowercase byte ≡ mark → mark < 65 → byte ≡ mark
no_letter byte mark is low = grind arith

-- a letter's lower case is one
no_lower : (byte letter : ℕ) → to_ascii_lowercase byte ≡ letter → 97 ≤ letter → byte < 65 → ⊥
no_lower byte letter is high low = grind arith

of_http : (j : ℕ) → j < NAME_LEAST → 97 ≤ get_or (codes "http://") j 0
of_http zero below = omega arith
of_http (suc zero) below = omega arith
of_http (suc (suc zero)) below = omega arith
of_http (suc (suc (suc j))) below = absurd (omega (arith, below))

of_https : (j : ℕ) → j < NAME_LEAST → 97 ≤ get_or (codes "https://") j 0
of_https zero below = omega arith
of_https (suc zero) below = omega arith
of_https (suc (suc zero)) below = omega arith
of_https (suc (suc (suc j))) below = absurd (omega (arith, below))

of_ftp : (j : ℕ) → j < NAME_LEAST → 97 ≤ get_or (codes "ftp://") j 0
of_ftp zero below = omega arith
of_ftp (suc zero) below = omega arith
of_ftp (suc (suc zero)) below = omega arith
of_ftp (suc (suc (suc j))) below = absurd (omega (arith, below))

-- the end of a scheme
marked_at : (word bytes : List ℕ) (at : ℕ) → at + END_BYTES ≤ length word → get_or word at 0 ≡ 58 → get_or word (at + 1) 0 ≡ 47 → get_or word (at + 2) 0 ≡ 47 →
    starts_caseless word bytes ≡ true → HasMark bytes at
marked_at word bytes at long colon first second starts = record {
  colon = no_letter _ _ (letter_at word bytes at starts (omega arith) ∙ colon) (omega arith);
  first = no_letter _ _ (letter_at word bytes (at + 1) starts (omega arith) ∙ first) (omega arith);
  second = no_letter _ _ (letter_at word bytes (at + 2) starts (omega arith) ∙ second) (omega arith);
}

http_at : (bytes : List ℕ) → starts_caseless (codes "http://") bytes ≡ true → HasMark bytes 4
http_at bytes = marked_at (codes "http://") bytes 4 (omega arith) refl refl refl

https_at : (bytes : List ℕ) → starts_caseless (codes "https://") bytes ≡ true → HasMark bytes 5
https_at bytes = marked_at (codes "https://") bytes 5 (omega arith) refl refl refl

ftp_at : (bytes : List ℕ) → starts_caseless (codes "ftp://") bytes ≡ true → HasMark bytes 3
ftp_at bytes = marked_at (codes "ftp://") bytes 3 (omega arith) refl refl refl

is_false : (b : Bool) → (b ≡ true → ⊥) → b ≡ false
is_false true h = absurd (h refl)
is_false false h = refl

-- no scheme begins where no `://` stands as far on as a scheme's name is long
no_scheme : (bytes : List ℕ) → ((at : ℕ) → NAME_LEAST ≤ at → at ≤ NAME_MOST → HasMark bytes at → ⊥) → scheme_of bytes ≡ None
unfolding scheme_of
no_scheme bytes none =
    let http = is_false (starts_caseless (codes "http://") bytes) (λ h. none 4 (omega arith) (omega arith) (http_at bytes h)) in
    let https = is_false (starts_caseless (codes "https://") bytes) (λ h. none 5 (omega arith) (omega arith) (https_at bytes h)) in
    let ftp = is_false (starts_caseless (codes "ftp://") bytes) (λ h. none 3 (omega arith) (omega arith) (ftp_at bytes h)) in
    rw (http, https, ftp) refl

-- a scheme's first letters are letters
starts_with_letter : (word bytes : List ℕ) (j : ℕ) → j < length word → 97 ≤ get_or word j 0 → get_or bytes j 0 < 65 → starts_caseless word bytes ≡ false
starts_with_letter word bytes j below letter low = is_false (starts_caseless word bytes) (λ starts. no_lower _ _ (letter_at word bytes j starts below) letter low)

-- no scheme begins where a byte below the letters stands in what would be its name
no_scheme_on : (bytes : List ℕ) (j : ℕ) → j < NAME_LEAST → get_or bytes j 0 < 65 → scheme_of bytes ≡ None
unfolding scheme_of
no_scheme_on bytes j below low =
    let http = starts_with_letter (codes "http://") bytes j (omega arith) (of_http j below) low in
    let https = starts_with_letter (codes "https://") bytes j (omega arith) (of_https j below) low in
    let ftp = starts_with_letter (codes "ftp://") bytes j (omega arith) (of_ftp j below) low in
    rw (http, https, ftp) refl

no_url : (look : Around) → ((at : ℕ) → NAME_LEAST ≤ at → at ≤ NAME_MOST → HasMark look.after at → ⊥) → url_of look ≡ None
unfolding url_of
no_url look none = rw (no_scheme look.after none) refl

-- the same three bytes elsewhere
moved : (a b : List ℕ) (i j : ℕ) → get_or a i 0 ≡ get_or b j 0 → get_or a (i + 1) 0 ≡ get_or b (j + 1) 0 → get_or a (i + 2) 0 ≡ get_or b (j + 2) 0 →
    HasMark a i → HasMark b j
moved a b i j p q r m = record { colon = sym p ∙ m.colon; first = sym q ∙ m.first; second = sym r ∙ m.second }

-- the end of bytes that end with a word
ended_by : (word bytes : List ℕ) (at : ℕ) → at + END_BYTES ≡ length word → get_or word at 0 ≡ 58 → get_or word (at + 1) 0 ≡ 47 → get_or word (at + 2) 0 ≡ 47 →
    ends_caseless word bytes ≡ true → (END_BYTES ≤ length bytes) × HasMark bytes (length bytes - END_BYTES)
ended_by word bytes at long colon first second ends =
    let parts = and_parts _ _ ends in
    let fits = leb-true (length word) (length bytes) parts.0 in
    let cut = length bytes - length word in
    let m = marked_at word (drop cut bytes) at (omega arith) colon first second parts.1 in
    let end : cut + at ≡ length bytes - END_BYTES = omega arith in (
      omega arith,
      subst (HasMark bytes) end (moved _ _ at (cut + at)
          (get_or-drop cut bytes at 0)
          (get_or-drop cut bytes (at + 1) 0 ∙ ap (λ k. get_or bytes k 0) (omega arith))
          (get_or-drop cut bytes (at + 2) 0 ∙ ap (λ k. get_or bytes k 0) (omega arith)) m),
    )

-- no scheme ends where no `://` does
no_domain : (look : Around) → (END_BYTES ≤ length look.before → HasMark look.before (length look.before - END_BYTES) → ⊥) → domain_of look ≡ None
unfolding domain_of ends_with_scheme
no_domain look none =
    let http = is_false (ends_caseless (codes "http://") look.before) (λ h. let e = ended_by (codes "http://") look.before 4 (omega arith) refl refl refl h in none e.0 e.1) in
    let https = is_false (ends_caseless (codes "https://") look.before) (λ h. let e = ended_by (codes "https://") look.before 5 (omega arith) refl refl refl h in none e.0 e.1) in
    let ftp = is_false (ends_caseless (codes "ftp://") look.before) (λ h. let e = ended_by (codes "ftp://") look.before 3 (omega arith) refl refl refl h in none e.0 e.1) in
    rw (http, https, ftp) refl

-- bytes of a part are bytes of the whole
after_at : (bytes : List ℕ) (place most j : ℕ) → j < most → get_or (take most (drop place bytes)) j 0 ≡ get_or bytes (place + j) 0
after_at bytes place most j low = get_or-take most (drop place bytes) j 0 low ∙ get_or-drop place bytes j 0

before_at : (bytes : List ℕ) (place cut j : ℕ) → cut + j < place → get_or (drop cut (take place bytes)) j 0 ≡ get_or bytes (cut + j) 0
before_at bytes place cut j low = get_or-drop cut (take place bytes) j 0 ∙ get_or-take place bytes (cut + j) 0 low

mark_after : (bytes : List ℕ) (place most at : ℕ) → at + 2 < most → HasMark (take most (drop place bytes)) at → HasMark bytes (place + at)
mark_after bytes place most at low m = moved _ _ at (place + at)
    (after_at bytes place most at (omega arith))
    (after_at bytes place most (at + 1) (omega arith) ∙ ap (λ k. get_or bytes k 0) (omega arith))
    (after_at bytes place most (at + 2) (omega arith) ∙ ap (λ k. get_or bytes k 0) (omega arith)) m

mark_before : (bytes : List ℕ) (place cut at : ℕ) → cut + at + 2 < place → HasMark (drop cut (take place bytes)) at → HasMark bytes (cut + at)
mark_before bytes place cut at low m = moved _ _ at (cut + at)
    (before_at bytes place cut at (omega arith))
    (before_at bytes place cut (at + 1) (omega arith) ∙ ap (λ k. get_or bytes k 0) (omega arith))
    (before_at bytes place cut (at + 2) (omega arith) ∙ ap (λ k. get_or bytes k 0) (omega arith)) m

module _ (bytes : List ℕ) (place : ℕ) where
  -- no URL stands at a place without a `://` as far behind it as a scheme's name is long
  no_url_at : ((at : ℕ) → place + NAME_LEAST ≤ at → at ≤ place + NAME_MOST → HasMark bytes at → ⊥) → url_of (look_at bytes place) ≡ None
  unfolding look_at
  no_url_at none =
      no_url (look_at bytes place) (λ at least most m. none (place + at) (omega arith) (omega arith) (mark_after bytes place LOOK_AFTER at (omega arith) m))

  -- no domain stands at a place without a `://` right ahead of it
  no_domain_at : place < length bytes → (END_BYTES ≤ place → HasMark bytes (place - END_BYTES) → ⊥) → domain_of (look_at bytes place) ≡ None
  unfolding look_at
  no_domain_at low none =
      let cut = place - LOOK_BEFORE in
      let before = drop cut (take place bytes) in
      let count : length before ≡ place - cut = omega (arith, length-drop cut (take place bytes), length-take place bytes) in
      let ahead : cut + (length before - END_BYTES) ≡ place - END_BYTES = omega (arith, count) in
      no_domain (look_at bytes place)
      (λ long m. none (omega arith) (subst (HasMark bytes) ahead (mark_before bytes place cut (length before - END_BYTES) (omega arith) m)))

  -- the bytes from a place on
  byte_from : (j : ℕ) → j < NAME_LEAST → get_or (look_at bytes place).after j 0 ≡ get_or bytes (place + j) 0
  unfolding look_at
  byte_from j below = after_at bytes place LOOK_AFTER j (omega arith)

  no_url_over : (j : ℕ) → j < NAME_LEAST → get_or bytes (place + j) 0 < 65 → url_of (look_at bytes place) ≡ None
  unfolding url_of
  no_url_over j below low = rw (no_scheme_on (look_at bytes place).after j below (omega (arith, byte_from j below))) refl

  -- no URL begins at a place that a `://` covers, nor nearer ahead of it than the shortest name is long
  no_url_near : (at : ℕ) → at < place + NAME_LEAST → place < at + END_BYTES → HasMark bytes at → url_of (look_at bytes place) ≡ None
  no_url_near at ahead behind m =
      ⊎_elim (λ lt. ⊎_elim
      (λ second. no_url_over 0 (omega arith) (omega (arith, m.first, ap (λ k. get_or bytes k 0) (one_behind second lt))))
      (λ third. no_url_over 0 (omega arith) (omega (arith, m.second, ap (λ k. get_or bytes k 0) (two_behind third))))
      (cases_lt place (at + 2)))
      (λ ge. no_url_over (at - place) (omega arith) (omega (arith, m.colon, ap (λ k. get_or bytes k 0) (there ge))))
      (cases_lt at place)
    where
      one_behind : place < at + 2 → at < place → place + 0 ≡ at + 1
      one_behind h l = omega arith

      two_behind : at + 2 ≤ place → place + 0 ≡ at + 2
      two_behind h = omega arith

      there : place ≤ at → place + (at - place) ≡ at
      there h = omega arith

-- the three bytes, one by one and by the test
occurs : (bytes : List ℕ) (at : ℕ) → HasMark bytes at → EndsScheme bytes at
unfolding may_end_scheme ends_scheme
occurs bytes at m = rw (m.colon, m.first, m.second) refl

has_mark : (bytes : List ℕ) (at : ℕ) → EndsScheme bytes at → HasMark bytes at
unfolding may_end_scheme ends_scheme
has_mark bytes at ends =
    let two = and_parts (may_end_scheme bytes at) (get_or bytes (at + 2) 0 == 47) ends in
    let one = and_parts (get_or bytes at 0 == 58) (get_or bytes (at + 1) 0 == 47) two.0 in
    record { colon = eqb-true _ _ one.0; first = eqb-true _ _ one.1; second = eqb-true _ _ two.1 }

-- ---- the search for `://`

not_there : (bytes : List ℕ) (at : ℕ) → may_end_scheme bytes at ≡ false → EndsScheme bytes at → ⊥
unfolding ends_scheme
not_there bytes at fails ends = false≢true (sym fails ∙ (and_parts (may_end_scheme bytes at) (get_or bytes (at + 2) 0 == 47) ends).0)

-- places that fail the test have none
pub none_by_test : (bytes : List ℕ) (next first end : ℕ) → first ≤ next - END_BYTES → NoneIn (may_end_scheme bytes) first end → NoSchemeEnd bytes next end
none_by_test bytes next first end low none at least most = not_there bytes at (none at (omega (arith, low, least)) most)

-- a place that has none, and those behind it that fail
pub none_further : (bytes : List ℕ) (next at end : ℕ) → NoSchemeEnd bytes next at → ends_scheme bytes at ≡ false
    → NoneIn (may_end_scheme bytes) (at + 1) end → NoSchemeEnd bytes next end
none_further bytes next at end ahead here behind place low high = elim (cases_lt place at) [
  | inl below ↦ ahead place low below
  | inr above ↦ (elim (cases_lt at place) [
    | inl further ↦ not_there bytes place (behind place (omega (arith, further)) high)
    | inr same ↦ (let e : at ≡ place = omega (arith, same, above) in λ ends. false≢true (sym here ∙ (ap (ends_scheme bytes) e ∙ ends)))
  ])
]

-- none begins behind the end
pub none_to_end : (bytes : List ℕ) (next own_to end : ℕ) → min (own_to + NAME_MOST) (length bytes) ≤ end → NoSchemeEnd bytes next end
    → NoSchemeEnd bytes next (own_to + NAME_MOST)
none_to_end bytes next own_to end is none at low high ends = elim (cases_lt at end) [
  | inl below ↦ none at low below ends
  | inr above ↦ absurd (omega (arith, (has_mark bytes at ends).colon, get_or_past bytes at 0 (omega (arith, is, high, above))))
]

module _ (bytes : List ℕ) (next at : ℕ) (first : NoSchemeEnd bytes next at) (place : ℕ) (low : next ≤ place) (inside : place < length bytes) where
  -- nothing stands further ahead of the first `://` than the longest name is long
  pub none_ahead : place + NAME_MOST < at → (url_of (look_at bytes place) ≡ None) × (domain_of (look_at bytes place) ≡ None)
  none_ahead far = (
    no_url_at bytes place (λ k least most m. first k (omega arith) (omega arith) (occurs bytes k m)),
    no_domain_at bytes place inside (λ enough m. first (place - END_BYTES) (omega arith) (omega arith) (occurs bytes (place - END_BYTES) m)),
  )

  -- nor between the shortest name of its scheme and the host
  pub none_over : EndsScheme bytes at → at < place + NAME_LEAST → place < at + END_BYTES → (url_of (look_at bytes place) ≡ None) × (domain_of (look_at bytes place) ≡ None)
  none_over stands ahead behind = (
    no_url_near bytes place at ahead behind (has_mark bytes at stands),
    no_domain_at bytes place inside (λ enough m. first (place - END_BYTES) (omega arith) (omega arith) (occurs bytes (place - END_BYTES) m)),
  )

-- a place with neither has no mark
pub unmarked : (want_url want_domain : Bool) (look : Around) (place : ℕ) → (url_of look ≡ None) × (domain_of look ≡ None) →
    url_marks want_url want_domain look place ≡ []
unmarked true true look place none = rw (none.0, none.1) refl
unmarked true false look place none = rw none.0 refl
unmarked false true look place none = rw none.1 refl
unmarked false false look place none = refl
