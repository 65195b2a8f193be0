-- Each executable and each compressed file begins with the first two bytes of a signature.
use Rattle.std.proofs.Common.{◌≡◌, ◌∙◌, ℕ, ◌+◌, ◌/◌, ◌<◌, ◌==◌, Bool, true, false, ◌&&◌, ◌||◌, List, [], ◌∷◌, take, drop, get_or, sym, ap, refl, arith, None, codes, eqb-true}
use Rattle.std.proofs.lemmas.Bool.{and_parts, agree_below_at, false_from_ne_true}
use Rattle.std.proofs.lemmas.List.{get_or-take, get_or-drop}
use Rattle.sbuf_nest.specs.Around.{Around, look_at}
use Rattle.sbuf_nest.specs.declared.look.TheConstants.{LOOK_AFTER}
use Rattle.scan_exec.specs.Exec.{begins, elf_of, pe_of, exec_of, unread_of}
use Rattle.scan_exec.specs.Marks.{exec_marks}
use Rattle.scan_exec.specs.Signatures.{begin_signature, may_begin}
use Rattle.scan_exec.specs.declared.find.TheConstants.{FIRST, SECOND}

-- what bytes begin with shows in their first two
first_two : (a b : ℕ) (rest bytes : List ℕ) → begins bytes (a ∷ b ∷ rest) ≡ true → (get_or bytes 0 0 ≡ a) × (get_or bytes 1 0 ≡ b)
first_two a b rest [] h = cc
first_two a b rest (x ∷ []) h = let ended = (and_parts (a == x) false h).1 in cc
first_two a b rest (x ∷ y ∷ bytes) h =
    let parts = and_parts _ _ h in
    (sym (eqb-true _ _ parts.0), sym (eqb-true _ _ (and_parts _ _ parts.1).0))

-- no signature stands where the first two bytes are those of none
not_begun : (a b : ℕ) (rest bytes : List ℕ) → begin_signature a b ≡ true → begin_signature (get_or bytes 0 0) (get_or bytes 1 0) ≡ false →
    begins bytes (a ∷ b ∷ rest) ≡ false
not_begun a b rest bytes is none =
    false_from_ne_true (begins bytes (a ∷ b ∷ rest)) (λ h.
    let two = first_two a b rest bytes h in
    let other : begin_signature a b ≡ false = rw (two.0, two.1) at none in
    cc (is, other))

module _ (look : Around) (none : begin_signature (get_or look.after 0 0) (get_or look.after 1 0) ≡ false) where
  no_exec : exec_of look ≡ None
  unfolding exec_of elf_of pe_of begin_signature
  no_exec =
      let elf = not_begun 0x7f 0x45 (codes "LF") look.after refl none in
      let pe = not_begun 0x4d 0x5a [] look.after refl none in
      rw (elf, pe) refl

  no_unread : unread_of look ≡ None
  unfolding unread_of begin_signature
  no_unread =
      let gzip = not_begun 0x1f 0x8b (8 ∷ []) look.after refl none in
      let zip = not_begun 0x50 0x4b (3 ∷ 4 ∷ []) look.after refl none in
      rw (gzip, zip) refl

  unmarked : (want_exec want_unread : Bool) (place : ℕ) → exec_marks want_exec want_unread look place ≡ []
  unmarked true true place = rw (no_exec, no_unread) refl
  unmarked true false place = rw no_exec refl
  unmarked false true place = rw no_unread refl
  unmarked false false place = refl

-- nor has the place a mark
pub none_begins : (want_exec want_unread : Bool) (bytes : List ℕ) (place : ℕ) → may_begin bytes place ≡ false →
    exec_marks want_exec want_unread (look_at bytes place) place ≡ []
unfolding look_at may_begin
none_begins want_exec want_unread bytes place none =
    let first : get_or (take LOOK_AFTER (drop place bytes)) 0 0 ≡ get_or bytes place 0 =
    get_or-take LOOK_AFTER (drop place bytes) 0 0 (omega arith) ∙ get_or-drop place bytes 0 0 ∙ ap (λ k. get_or bytes k 0) (omega arith) in
    let second : get_or (take LOOK_AFTER (drop place bytes)) 1 0 ≡ get_or bytes (place + 1) 0 =
    get_or-take LOOK_AFTER (drop place bytes) 1 0 (omega arith) ∙ get_or-drop place bytes 1 0 in
    unmarked (look_at bytes place) (rw (first, second) none) want_exec want_unread place

-- the two look-ups of a byte, and the byte behind it

is_first : ℕ → Bool
is_first a = (a == 0x7f) || (a == 0x4d) || (a == 0x1f) || (a == 0x50)

-- a test that stands ahead of tests that fail
alone : (t : Bool) → t ≡ (t || false)
alone true = refl
alone false = refl

alone_of_three : (t : Bool) → t ≡ (t || false || false)
alone_of_three true = refl
alone_of_three false = refl

alone_of_four : (t : Bool) → t ≡ (t || false || false || false)
alone_of_four true = refl
alone_of_four false = refl

pub both_looked_up : (a b : ℕ) → a < 256 → ((a == get_or FIRST (a / 16) 0) && (b == get_or SECOND (a / 16) 0)) ≡ begin_signature a b
unfolding begin_signature is_first
both_looked_up a b below =
    by_first (a == 0x7f) (a == 0x4d) (a == 0x1f) (a == 0x50) refl refl refl refl
  where
    by_first : (e m g z : Bool) → (a == 0x7f) ≡ e → (a == 0x4d) ≡ m → (a == 0x1f) ≡ g → (a == 0x50) ≡ z →
        ((a == get_or FIRST (a / 16) 0) && (b == get_or SECOND (a / 16) 0)) ≡ begin_signature a b
    by_first true m g z is_e is_m is_g is_z = rw (eqb-true _ _ is_e) (alone_of_four (b == 0x45))
    by_first false true g z is_e is_m is_g is_z = rw (eqb-true _ _ is_m) (alone_of_three (b == 0x5a))
    by_first false false true z is_e is_m is_g is_z = rw (eqb-true _ _ is_g) (alone (b == 0x8b))
    by_first false false false true is_e is_m is_g is_z = rw (eqb-true _ _ is_z) refl
    by_first false false false false is_e is_m is_g is_z =
        let other : (a == get_or FIRST (a / 16) 0) ≡ false =
        agree_below_at (λ x. x == get_or FIRST (x / 16) 0) is_first 256 a refl below ∙ rw (is_e, is_m, is_g, is_z) refl in
        rw (other, is_e, is_m, is_g, is_z) refl
