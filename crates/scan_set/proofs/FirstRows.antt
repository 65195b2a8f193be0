-- Where no row of word bytes stands no Base64 text begins, and no run of hexadecimal digits.
use Rattle.std.proofs.Common.{◌≡◌, ◌∙◌, ℕ, ◌+◌, ◌-◌, ◌≤◌, Bool, true, false, not, List, [], length, ap, sym, refl, arith}
use Rattle.std.specs.Prelude.{slice_index}
use Rattle.std.proofs.lemmas.Bool.{not-false}
use Rattle.std.proofs.lemmas.Bool.Decides.{nat_tests}
use Rattle.byte_kit.specs.Classes.{base64_class, hex_class, word_class}
use Rattle.decode_base64.specs.Starts.{base64_starts}
use Rattle.decode_base64.proofs.Texts.{none_from}
use Rattle.decode_hex.specs.Starts.{hex_starts}
use Rattle.decode_hex.proofs.Digits.{none_passed}
use Rattle.scan_set.specs.Shapes.{when}
use Rattle.scan_wordlist.specs.Filter.{is_stranger}
use Rattle.sbuf_nest.specs.Around.{Around}
use Rattle.sbuf_nest.specs.Marks.{marks_of, owned_marks, NoneFrom}
use Rattle.sbuf_nest.specs.Runs.{NoRowFrom}
use Rattle.sbuf_nest.specs.declared.sbuf.Sbuf.{Sbuf}
use Rattle.sbuf_nest.proofs.MarkLists.{marks_of-join, marks_of-none}
use Rattle.sbuf_nest.proofs.StrangerRows.{none_without_row}
use Rattle.vector_search.specs.Rows.{NoRowIn}
use Rattle.vector_search.specs.declared.rows.TheConstants.{ROW}

-- all bytes of a class are word bytes
abbrev OfWords : (ℕ → Bool) → Type 0
OfWords class = (byte : ℕ) → class byte ≡ true → word_class byte ≡ true

base64_of_words : OfWords base64_class
unfolding base64_class word_class
base64_of_words byte is = grind (arith, nat_tests, is)

hex_of_words : OfWords hex_class
unfolding hex_class word_class
hex_of_words byte is = grind (arith, nat_tests, is)

module _ (bytes : List ℕ) (first next : ℕ)
    (none : NoRowIn (is_stranger bytes) (length bytes) first next) where
  -- a row of the class would be a row of word bytes
  none_of : (class : ℕ → Bool) → OfWords class → NoRowFrom class ROW bytes first next
  unfolding is_stranger
  none_of class words =
      none_without_row class bytes first next
      (λ place low high row. none place low high (
        row.0,
        λ k near far. ap not (words (slice_index bytes k) (not-false (class (slice_index bytes k)) (row.1 k near far))),
      ))

  no_text : NoneFrom base64_starts bytes first next
  no_text = none_from bytes first next (none_of base64_class base64_of_words)

  no_digits : NoneFrom hex_starts bytes first next
  no_digits = none_passed bytes first next (none_of hex_class hex_of_words)

  -- the marks from the first place on are those from the next one on
  behind : {A : Type 0} (judge : Around → ℕ → List A) (end : ℕ) → first ≤ next → next ≤ end → NoneFrom judge bytes first next
      → marks_of judge bytes next (end - next) ≡ marks_of judge bytes first (end - first)
  behind judge end low high bare =
      let e : first + (next - first) ≡ next = omega (arith, low) in
      let empty : marks_of judge bytes first (next - first) ≡ [] =
      marks_of-none judge bytes first (next - first) (λ place from to. bare place from (omega (arith, e, to))) in
      rw empty at (marks_of-join judge bytes first next end low high)

  pub texts_behind : (end : ℕ) → first ≤ next → next ≤ end → marks_of base64_starts bytes next (end - next) ≡ marks_of base64_starts bytes first (end - first)
  texts_behind end low high = behind base64_starts end low high no_text

  pub digits_behind : (end : ℕ) → first ≤ next → next ≤ end → marks_of hex_starts bytes next (end - next) ≡ marks_of hex_starts bytes first (end - first)
  digits_behind end low high = behind hex_starts end low high no_digits

-- the same of what is listed where a decoder is on
pub where_on : {A : Type 0} (on : Bool) (judge : Around → ℕ → List A) (part whole : Sbuf) → owned_marks judge part ≡ owned_marks judge whole →
    owned_marks (λ look place. when on (judge look place)) part ≡ owned_marks (λ look place. when on (judge look place)) whole
where_on true judge part whole same = same
where_on false judge part whole same =
    marks_of-none _ part.bytes.now part.own_from (part.own_to - part.own_from) (λ place low high. refl)
    ∙ sym (marks_of-none _ whole.bytes.now whole.own_from (whole.own_to - whole.own_from) (λ place low high. refl))
