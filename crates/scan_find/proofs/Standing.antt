-- Where a keyword stands, its bytes stand: the test of places passes, and its chain leads to it.
use Rattle.std.proofs.Common.{◌≡◌, ◌≢◌, ◌∙◌, ℕ, zero, suc, ◌+◌, ◌<◌, ◌≤◌, true, false, not, ◌==◌, nat_eq, List, [], ◌∷◌, ◌++◌, length, take, drop, get_or, Option, None, sym, ap, refl, arith, eqb-true}
use Rattle.std.specs.List.{starts_with}
use Rattle.std.specs.Int.{bit_at}
use Rattle.std.proofs.lemmas.Bool.{false_from_ne_true, false≢true}
use Rattle.std.proofs.lemmas.List.{append-nil, get_or-take, get_or-drop, take_all, nil_from_length, length-drop}
use Rattle.std.specs.Cmp.Lexicographic.{same_text}
use Rattle.forensic_path.specs.declared.feature.Kind.TheVariants.{Find}
use Rattle.sbuf_nest.specs.Around.{Around, look_at}
use Rattle.sbuf_nest.specs.Marks.{marked}
use Rattle.sbuf_nest.specs.declared.look.TheConstants.{LOOK_AFTER}
use Rattle.scan_find.specs.Find.{keyword_of}
use Rattle.scan_find.specs.Front.{buckets_at, bucket_of, may_stand, LetsKeyword}
use Rattle.scan_find.specs.Marks.{numbered_marks}
use Rattle.scan_find.specs.declared.front.Front.{Front}
use Rattle.scan_find.proofs.Buckets.{and_bit, some_bit}
use Rattle.scan_find.proofs.Numbered.{numbered-none, one_more}

-- the bytes of a front
pub front_byte : (bytes keyword : List ℕ) (k : ℕ) → starts_with nat_eq bytes keyword ≡ true → k < length keyword → get_or bytes k 0 ≡ get_or keyword k 0
front_byte bytes keyword k starts below =
    sym (get_or-take (length keyword) bytes k 0 below) ∙ ap (λ some. get_or some k 0) (sym (same_text keyword (take (length keyword) bytes) (sym starts)))

-- a keyword doesn't stand where its bytes aren't a front of the bytes
pub not_standing : (keyword : List ℕ) (look : Around) → starts_with nat_eq look.after keyword ≡ false → keyword_of keyword look ≡ None
unfolding keyword_of
not_standing keyword look none = rw none refl

-- nor where another byte stands first
pub other_first : (keyword : List ℕ) (look : Around) → 1 ≤ length keyword → get_or keyword 0 0 ≢ get_or look.after 0 0 → keyword_of keyword look ≡ None
other_first keyword look some other =
    not_standing keyword look
    (false_from_ne_true (starts_with nat_eq look.after keyword) (λ starts. absurd (other (sym (front_byte look.after keyword 0 starts some)))))

-- nor where no byte stands
pub none_first : (keyword : List ℕ) (look : Around) → 1 ≤ length keyword → length look.after ≡ 0 → keyword_of keyword look ≡ None
none_first [] look some empty = absurd (omega (arith, some))
none_first (x ∷ keyword) look some empty =
    not_standing (x ∷ keyword) look (ap (λ bytes. starts_with nat_eq bytes (x ∷ keyword)) (nil_from_length look.after empty))

-- the byte of a place's Look
seen_byte : (most place k : ℕ) (bytes : List ℕ) → k < most → get_or (take most (drop place bytes)) k 0 ≡ get_or bytes (place + k) 0
seen_byte most place k bytes near = get_or-take most (drop place bytes) k 0 near ∙ get_or-drop place bytes k 0

module _ (front : Front) (keyword : List ℕ) (lets : LetsKeyword front keyword) (bytes : List ℕ) (small : (k : ℕ) → get_or bytes k 0 < 256) (most place : ℕ) (far : 3 ≤ most)
    (starts : starts_with nat_eq (take most (drop place bytes)) keyword ≡ true) where
  -- the bytes of the place, as far as the keyword goes, are its own
  own_byte : (k : ℕ) → k < 3 → k < length keyword → get_or bytes (place + k) 0 ≡ get_or keyword k 0
  own_byte k near below =
      sym (seen_byte most place k bytes (omega (arith, near, far))) ∙ front_byte (take most (drop place bytes)) keyword k starts below

  all_bits : bit_at (buckets_at front bytes place) (bucket_of keyword) ≡ 1
  all_bits =
      let at : place + 0 ≡ place = omega arith in
      let first = lets.first (get_or bytes place 0) (small place) (λ below. ap (λ k. get_or bytes k 0) (sym at) ∙ own_byte 0 (omega arith) below) in
      let second = lets.second (get_or bytes (place + 1) 0) (small (place + 1)) (own_byte 1 (omega arith)) in
      let third = lets.third (get_or bytes (place + 2) 0) (small (place + 2)) (own_byte 2 (omega arith)) in
      and_bit _ _ (bucket_of keyword)
      (and_bit _ _ (bucket_of keyword) (and_bit _ _ (bucket_of keyword) first.low first.high) (and_bit _ _ (bucket_of keyword) second.low second.high))
      (and_bit _ _ (bucket_of keyword) third.low third.high)

  -- the test of places passes
  passes : may_stand front bytes place ≡ true
  unfolding may_stand
  passes = ap not (false_from_ne_true (buckets_at front bytes place == 0) (λ none. absurd (some_bit _ (bucket_of keyword) all_bits (eqb-true _ _ none))))

-- no keyword stands where the test fails
pub none_stands : (front : Front) (keyword : List ℕ) → LetsKeyword front keyword → (bytes : List ℕ) → ((k : ℕ) → get_or bytes k 0 < 256) → (place : ℕ) →
    may_stand front bytes place ≡ false → keyword_of keyword (look_at bytes place) ≡ None
unfolding look_at
none_stands front keyword lets bytes small place fails =
    not_standing keyword (look_at bytes place)
    (false_from_ne_true (starts_with nat_eq (take LOOK_AFTER (drop place bytes)) keyword)
    (λ starts. absurd (false≢true (sym fails ∙ passes front keyword lets bytes small LOOK_AFTER place (omega arith) starts))))

-- things without an extent have no marks
module _ {A : Type 0} (extent : A → Option ℕ) (place which : ℕ) (things : List A) where
  one_further : (k : ℕ) → ((d : A) → extent (get_or things k d) ≡ None) → k < length things →
      numbered_marks extent which (take (k + 1) things) place ≡ numbered_marks extent which (take k things) place
  one_further k none within = one_further_of (drop k things) k none within refl
    where
      one_further_of : (rest : List A) (k : ℕ) → ((d : A) → extent (get_or things k d) ≡ None) → k < length things → drop k things ≡ rest →
          numbered_marks extent which (take (k + 1) things) place ≡ numbered_marks extent which (take k things) place
      one_further_of [] k none within is = absurd (omega (arith, length-drop k things, ap (length {A = A}) is))
      one_further_of (d ∷ rest) k none within is =
          let front = numbered_marks extent which (take k things) place in
          sym (one_more extent place which things [] k (which + k) d front front within refl refl
          (sym (append-nil front) ∙ ap (λ some. front ++ some) (sym (ap (marked Find (which + k) place) (none d)))))

  pub skipped : (count from : ℕ) → from + count ≤ length things → ((k : ℕ) (d : A) → from ≤ k → k < from + count → extent (get_or things k d) ≡ None) →
      numbered_marks extent which (take (from + count) things) place ≡ numbered_marks extent which (take from things) place
  skipped zero from within none =
      let e : from + 0 ≡ from = omega arith in
      rw e refl
  skipped (suc count) from within none =
      let e : from + suc count ≡ from + count + 1 = omega arith in
      rw e (one_further (from + count) (λ d. none (from + count) d (omega arith) (omega arith)) (omega arith)
      ∙ skipped count from (omega arith) (λ k d low high. none k d low (omega (arith, high))))

  pub none_marked : ((k : ℕ) (d : A) → k < length things → extent (get_or things k d) ≡ None) → numbered_marks extent which things place ≡ []
  none_marked none =
      let n = length things in
      let e : 0 + n ≡ n = omega arith in
      let all = skipped n 0 (omega arith) (λ k d low high. none k d (omega arith)) in
      ap (λ some. numbered_marks extent which some place) (sym (take_all n things (omega arith)) ∙ ap (λ k. take k things) (sym e)) ∙ all ∙ numbered-none extent place which
