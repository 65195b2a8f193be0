-- The strict reading: no two sequences of bytes have one escape, and a text that does not go on as an
-- escape is the escape of no bytes.
use Rattle.std.proofs.Common.{◌≡◌, ℕ, ◌<◌, Bool, true, false, Some, None, List, [], ◌∷◌, ◌++◌, inl, inr, not, ◌&&◌, nat_eq, length, take, drop, get_or, position, refl, ap, sym, ◌∙◌, append_assoc, append-nil, arith}
use Rattle.std.specs.List.{starts_with}
use Rattle.std.specs.Cmp.Lexicographic.{pointwise}
use Rattle.std.proofs.lemmas.Bool.{and_cases, not-false, not-true}
use Rattle.std.proofs.lemmas.Cmp.{nat_list_eq_equiv}
use Rattle.std.proofs.lemmas.List.{take_at, append_cancel_left, take-append-drop}
use Rattle.feature_escape.specs.Escape.{AreBytes, BeginsNoEscape, IsNoEscape, escape_of, escaped, stands, unescape_lenient_of}
use Rattle.feature_escape.proofs.LenientLaw.{one_more}
use Rattle.feature_escape.proofs.Runs.{is_escaped, left_from, passes_at, fails_before, fails_in_all, escape_of-append, escape_of_run, run_is_bytes}

pub AreBytes-append : (xs ys : List ℕ) → AreBytes xs → AreBytes ys → AreBytes (xs ++ ys)
AreBytes-append [] ys first second = second
AreBytes-append (x ∷ xs) ys first second = (first.0, AreBytes-append xs ys first.1 second)

-- two texts that begin with a byte's escape and are equal begin with the escape of one byte
same_first : (a b : ℕ) (xs ys : List ℕ) → a < 256 → b < 256 → escaped a ++ xs ≡ escaped b ++ ys → (a ≡ b) × (xs ≡ ys)
same_first a b xs ys a_small b_small same =
    let read : a ∷ unescape_lenient_of xs ≡ b ∷ unescape_lenient_of ys =
    sym (one_more a xs a_small) ∙ ap unescape_lenient_of same ∙ one_more b ys b_small in
    let equal : a ≡ b = cc in
    (equal, append_cancel_left (escaped a) xs ys (same ∙ ap (λ byte. escaped byte ++ ys) (sym equal)))

-- the escape of a byte isn't empty
has_length : (byte : ℕ) (rest : List ℕ) → byte < 256 → [] ≡ escaped byte ++ rest → ⊥
unfolding unescape_lenient_of
has_length byte rest small same =
    let read : [] ≡ byte ∷ unescape_lenient_of rest = ap unescape_lenient_of same ∙ one_more byte rest small in cc

-- the first byte that is read of a text that begins with a byte's escape
same_byte : (text rest after : List ℕ) (read byte : ℕ) → byte < 256 → text ≡ escaped byte ++ rest
    → unescape_lenient_of text ≡ read ∷ unescape_lenient_of after → read ≡ byte
same_byte text rest after read byte small is reads =
    let both : read ∷ unescape_lenient_of after ≡ byte ∷ unescape_lenient_of rest =
    sym reads ∙ ap unescape_lenient_of is ∙ one_more byte rest small in cc

starts : (piece rest : List ℕ) → starts_with nat_eq (piece ++ rest) piece ≡ true
starts piece rest =
    let front : take (length piece) (piece ++ rest) ≡ piece = take_at piece rest (length piece) refl in
    ap (pointwise nat_eq piece) front ∙ nat_list_eq_equiv.refl piece

not_both : (b : Bool) → b ≡ true → b ≡ false → ⊥
not_both b yes_it no_it = cc

-- where the first byte that is read stands, or its escape is written otherwise, no escape begins
pub none_ahead : (text after : List ℕ) (read : ℕ) → unescape_lenient_of text ≡ read ∷ unescape_lenient_of after
    → (not (stands read) && starts_with nat_eq text (escaped read)) ≡ false → BeginsNoEscape text
none_ahead text after read reads fails byte rest small by_digits is =
    let same : read ≡ byte = same_byte text rest after read byte small is reads in
    let written : starts_with nat_eq text (escaped read) ≡ true =
    ap (λ piece. starts_with nat_eq piece (escaped read)) (is ∙ ap (λ b. escaped b ++ rest) (sym same)) ∙ starts (escaped read) rest in
    elim (and_cases _ _ fails) [
      | inl stands_so ↦ not_both (stands byte) (ap stands (sym same) ∙ not-false _ stands_so) by_digits
      | inr other ↦ not_both _ written other
    ]

-- a text that begins with no escape by digits, and with what a byte is escaped as, begins with a byte that stands
first_stands : (byte : ℕ) (other rest : List ℕ) → byte < 256 → BeginsNoEscape other → (b : Bool) → stands byte ≡ b
    → other ≡ escaped byte ++ rest → stands (get_or other 0 0) ≡ true
first_stands byte other rest small none false is same = absurd (none byte rest small is same)
first_stands byte other rest small none true is same =
    let first : get_or other 0 0 ≡ byte = rw is at (ap (λ text. get_or text 0 0) same) in
    ap stands first ∙ is

-- what was read so far, and behind it a text that begins with no escape, is the escape of no bytes
no_bytes : (got other : List ℕ) → AreBytes got → 0 < length other → stands (get_or other 0 0) ≡ false → BeginsNoEscape other
    → (bytes : List ℕ) → AreBytes bytes → escape_of bytes ≡ escape_of got ++ other → ⊥
unfolding escape_of
no_bytes [] other got_small some ends none [] small same = omega (arith, ap length same)
no_bytes [] other got_small some ends none (byte ∷ bytes) small same =
    not_both _ (first_stands byte other (escape_of bytes) small.0 none (stands byte) refl (sym same)) ends
no_bytes (first ∷ got) other got_small some ends none [] small same =
    has_length first (escape_of got ++ other) got_small.0 (same ∙ append_assoc (escaped first) (escape_of got) other)
no_bytes (first ∷ got) other got_small some ends none (byte ∷ bytes) small same =
    let alike = same_first byte first (escape_of bytes) (escape_of got ++ other) small.0 got_small.0
    (same ∙ append_assoc (escaped first) (escape_of got) other) in
    no_bytes got other got_small.1 some ends none bytes small.1 alike.1

-- what was read so far, and the run that follows it
so_far : (got rest text : List ℕ) (at : ℕ) → position is_escaped rest ≡ Some at → escape_of got ++ rest ≡ text
    → escape_of (got ++ take at rest) ++ drop at rest ≡ text
so_far got rest text at found read =
    rw (
      escape_of-append got (take at rest),
      escape_of_run (take at rest) (fails_before is_escaped rest at found),
      append_assoc (escape_of got) (take at rest) (drop at rest),
      take-append-drop at rest,
    ) read

are_bytes : (got rest : List ℕ) (at : ℕ) → position is_escaped rest ≡ Some at → AreBytes got → AreBytes (got ++ take at rest)
are_bytes got rest at found small =
    AreBytes-append got (take at rest) small (run_is_bytes (take at rest) (fails_before is_escaped rest at found))

-- what ends the run is no escape, so the text is none
pub no_text : (got rest text : List ℕ) (at : ℕ) → position is_escaped rest ≡ Some at → AreBytes got
    → escape_of got ++ rest ≡ text → BeginsNoEscape (drop at rest) → IsNoEscape text
no_text got rest text at found got_small read none bytes small same =
    no_bytes (got ++ take at rest) (drop at rest) (are_bytes got rest at found got_small)
    (left_from is_escaped rest at found) (not-true _ (passes_at is_escaped rest at found)) none bytes small
    (same ∙ sym (so_far got rest text at found read))

one_byte_more : (byte : ℕ) (rest : List ℕ) → escape_of (byte ∷ []) ++ rest ≡ escaped byte ++ rest
unfolding escape_of
one_byte_more byte rest = ap (λ text. text ++ rest) (append-nil (escaped byte))

-- one more byte is read
pub more_text : (got rest text : List ℕ) (at byte : ℕ) → position is_escaped rest ≡ Some at
    → escape_of got ++ rest ≡ text → drop at rest ≡ escaped byte ++ drop 4 (drop at rest)
    → escape_of ((got ++ take at rest) ++ byte ∷ []) ++ drop 4 (drop at rest) ≡ text
more_text got rest text at byte found read ahead =
    rw (escape_of-append (got ++ take at rest) (byte ∷ []))
    (rw append_assoc (ap (λ more. escape_of (got ++ take at rest) ++ more) (one_byte_more byte (drop 4 (drop at rest)) ∙ sym ahead) ∙ so_far got rest text at found read))

pub more_bytes : (got rest : List ℕ) (at byte : ℕ) → position is_escaped rest ≡ Some at → AreBytes got → byte < 256
    → AreBytes ((got ++ take at rest) ++ byte ∷ [])
more_bytes got rest at byte found small byte_small =
    AreBytes-append (got ++ take at rest) (byte ∷ []) (are_bytes got rest at found small) (byte_small, tt)

-- all that is left stands
pub whole_text : (got rest text : List ℕ) → position is_escaped rest ≡ None → AreBytes got → escape_of got ++ rest ≡ text
    → AreBytes (got ++ rest) × (escape_of (got ++ rest) ≡ text)
whole_text got rest text none small read =
    let stand = fails_in_all is_escaped rest none in (
      AreBytes-append got rest small (run_is_bytes rest stand),
      rw (escape_of-append got rest, escape_of_run rest stand) read,
    )
