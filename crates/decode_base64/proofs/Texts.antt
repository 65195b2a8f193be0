-- Where a text begins, and what is known of one.
use Rattle.std.proofs.Common.{◌+◌, ◌<◌, inl, inr, ◌≡◌, ◌∙◌, ℕ, ◌≤◌, ◌&&◌, not, nat_le, Bool, true, false, List, [], length, take, refl, subst, sym, ap, arith, ◌⊎◌, Some, None}
use Rattle.std.specs.Prelude.{option_map, if◌then◌else◌}
use Rattle.std.specs.List.{prefix_len, list_any}
use Rattle.std.specs.Prelude.{slice_index}
use Rattle.std.proofs.lemmas.Bool.{cases_lt}
use Rattle.std.proofs.lemmas.Bool.Decides.{nat_tests}
use Rattle.sbuf_nest.proofs.ClassRuns.{none_to_stranger}
use Rattle.byte_kit.specs.Classes.{base64_class}
use Rattle.sbuf_nest.specs.Around.{Around, look_at}
use Rattle.sbuf_nest.specs.Edges.{begins_run}
use Rattle.sbuf_nest.specs.Marks.{NoneFrom}
use Rattle.sbuf_nest.specs.Runs.{begins_row, NoRowFrom}
use Rattle.sbuf_nest.specs.declared.mark.Extent.{Extent}
use Rattle.decode_base64.specs.Base64.{line_breaks, ends_line, begins_text, text_extent, base64_extent}
use Rattle.decode_base64.specs.Text.{letter_count, base64_text, IsText}
use Rattle.decode_base64.specs.Starts.{base64_starts}
use Rattle.decode_base64.specs.declared.TheConstants.{LINE_LEAST}
use Rattle.decode_base64.proofs.Counts.{text_within}

-- a line break behind a line of letters stands right ahead
abbrev pub follows_line : Around → Bool
follows_line look = list_any (ends_line look.before) line_breaks

not_begins_text : (enough follows : Bool) → (enough && false && not follows) ≡ false
not_begins_text true follows = refl
not_begins_text false follows = refl

not_follows_text : (enough begins : Bool) → (enough && begins && false) ≡ false
not_follows_text true true = refl
not_follows_text true false = refl
not_follows_text false begins = refl

not_begun : (enough begins follows : Bool) → (begins ≡ false) ⊎ (follows ≡ true) ⊎ (enough ≡ false) → (enough && begins && not follows) ≡ false
not_begun enough begins follows (inl e) = rw e (not_begins_text enough follows)
not_begun enough begins follows (inr (inl e)) = rw e (not_follows_text enough begins)
not_begun enough begins follows (inr (inr e)) = rw e refl

abbrev text_at : Around → Extent
text_at look = record { bytes = text_extent look.after; units = letter_count (take (text_extent look.after) look.after) }

module _ (look : Around) where
  not_begins : begins_text look ≡ false → base64_text look ≡ None
  unfolding base64_text base64_extent
  not_begins is = rw is refl

  pub none_inside : begins_run base64_class look ≡ false → base64_text look ≡ None
  none_inside e = not_begins (not_begun (nat_le LINE_LEAST (prefix_len base64_class look.after)) (begins_run base64_class look) (follows_line look) (inl e))

  pub none_behind : follows_line look ≡ true → base64_text look ≡ None
  none_behind e = not_begins (not_begun (nat_le LINE_LEAST (prefix_len base64_class look.after)) (begins_run base64_class look) (follows_line look) (inr (inl e)))

  pub none_short : prefix_len base64_class look.after < LINE_LEAST → base64_text look ≡ None
  none_short few =
      let e : nat_le LINE_LEAST (prefix_len base64_class look.after) ≡ false = grind (arith, nat_tests) in
      not_begins (not_begun (nat_le LINE_LEAST (prefix_len base64_class look.after)) (begins_run base64_class look) (follows_line look) (inr (inr e)))

  pub some_text : (text : Extent) → begins_run base64_class look ≡ true → follows_line look ≡ false → LINE_LEAST ≤ prefix_len base64_class look.after
      → text.bytes ≡ text_extent look.after → text.units ≡ letter_count (take text.bytes look.after) → base64_text look ≡ Some text
  unfolding base64_text base64_extent
  some_text text begins ahead enough bytes units =
      let e : nat_le LINE_LEAST (prefix_len base64_class look.after) ≡ true = grind (arith, nat_tests) in
      rw (e, begins, ahead) (ap (λ n. Some (record { bytes = n; units = letter_count (take n look.after) })) (sym bytes) ∙ ap (λ n. Some (record { bytes = text.bytes; units = n })) (sym units))

  -- no run of enough letters begins
  no_row : (begins : Bool) → begins_run base64_class look ≡ begins → (begins && nat_le LINE_LEAST (prefix_len base64_class look.after)) ≡ false → base64_text look ≡ None
  no_row true is few = none_short (grind (arith, nat_tests))
  no_row false is few = none_inside is

  pub none_of_row : begins_row base64_class LINE_LEAST look ≡ false → base64_text look ≡ None
  unfolding begins_row
  none_of_row none = no_row (begins_run base64_class look) refl none

pub none_from : (bytes : List ℕ) (first end : ℕ) → NoRowFrom base64_class LINE_LEAST bytes first end → NoneFrom base64_starts bytes first end
none_from bytes first end none place low high = rw (none_of_row (look_at bytes place) (none place low high)) refl

-- none begins up to a place, nor from there on
pub none_further : (bytes : List ℕ) (first middle end : ℕ) → NoneFrom base64_starts bytes first middle → NoneFrom base64_starts bytes middle end
    → NoneFrom base64_starts bytes first end
none_further bytes first middle end ahead behind place low high =
    elim (cases_lt place middle) [ inl below ↦ ahead place low below | inr above ↦ behind place above high ]

-- none begins at a place that follows a line
pub none_there : (bytes : List ℕ) (place : ℕ) → follows_line (look_at bytes place) ≡ true → NoneFrom base64_starts bytes place (place + 1)
none_there bytes place follows k low high =
    let e : place ≡ k = omega arith in
    subst (λ p. base64_starts (look_at bytes p) p ≡ []) e (rw (none_behind (look_at bytes place) follows) refl)

-- ---- where no letter stands

-- no run begins where no letter stands
pub none_at_stranger : (bytes : List ℕ) (place : ℕ) → base64_class (slice_index bytes place) ≡ false → begins_row base64_class LINE_LEAST (look_at bytes place) ≡ false
none_at_stranger bytes place other = none_to_stranger base64_class bytes LINE_LEAST place place place (omega arith) (omega arith) other (omega arith) (omega arith)

lf_is_none : base64_class 10 ≡ false
unfolding base64_class
lf_is_none = refl

cr_is_none : base64_class 13 ≡ false
unfolding base64_class
cr_is_none = refl

pub none_at_lf : (byte : ℕ) → byte ≡ 10 → base64_class byte ≡ false
none_at_lf byte is = ap base64_class is ∙ lf_is_none

pub none_at_cr : (byte : ℕ) → byte ≡ 13 → base64_class byte ≡ false
none_at_cr byte is = ap base64_class is ∙ cr_is_none

-- one place more
pub none_more : (bytes : List ℕ) (first place : ℕ) → NoRowFrom base64_class LINE_LEAST bytes first place → base64_class (slice_index bytes place) ≡ false
    → NoRowFrom base64_class LINE_LEAST bytes first (place + 1)
none_more bytes first place none other k low high = elim (cases_lt k place) [
  | inl ahead ↦ none k low ahead
  | inr here ↦ (let e : k ≡ place = omega (arith, here, high) in rw e (none_at_stranger bytes place other))
]

-- ---- a text that was found

found_if : (begins : Bool) (n : ℕ) (f : ℕ → Extent) (text : Extent) → option_map f (if begins then Some n else None) ≡ Some text → text ≡ f n
found_if true n f text is = cc is
found_if false n f text is = absurd (cc is)

found : (look : Around) (text : Extent) → base64_text look ≡ Some text → text ≡ text_at look
unfolding base64_text base64_extent
found look text is = found_if (begins_text look) (text_extent look.after) _ text is

module _ (after : List ℕ) (text : Extent) (given : IsText after text) where
  pub given_within : text.bytes ≤ length after
  given_within =
      let is = found (record { before = given.0; after = after }) text given.1 in
      omega (arith, ap (λ (t : Extent). t.bytes) is, text_within after)

  pub given_letters : text.units ≡ letter_count (take text.bytes after)
  given_letters =
      let is = found (record { before = given.0; after = after }) text given.1 in
      ap (λ (t : Extent). t.units) is ∙ ap (λ n. letter_count (take n after)) (sym (ap (λ (t : Extent). t.bytes) is))
