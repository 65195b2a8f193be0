-- Runs of hexadecimal digits: how far they go, and what they say.
use Rattle.std.proofs.Common.{◌≡◌, ◌∙◌, ℕ, suc, ◌+◌, ◌*◌, ◌/◌, ◌%◌, ◌<◌, ◌≤◌, Bool, true, false, not, ◌&&◌, ◌||◌, ◌==◌, cond, get_or, List, [], ◌∷◌, length, take, min, Option, Some, None, refl, sym, ap, arith}
use Rattle.std.specs.List.{prefix_len, AllPass}
use Rattle.std.specs.Prelude.{nat_le, nat_lt, option_map, slice_index}
use Rattle.std.specs.Option.{option_map_or}
use Rattle.std.proofs.lemmas.Bool.{agree_below_at, eqb-true, ltb-true, and_parts}
use Rattle.std.proofs.lemmas.Bool.Decides.{nat_tests}
use Rattle.std.proofs.lemmas.List.{get_or-take, length-take}
use Rattle.std.proofs.lemmas.List.Sums.{prefix_len_passes, prefix_len-le-length}
use Rattle.byte_kit.specs.Classes.{hex_class}
use Rattle.sbuf_nest.specs.Around.{Around}
use Rattle.sbuf_nest.specs.Edges.{begins_run}
use Rattle.sbuf_nest.specs.Marks.{NoneFrom}
use Rattle.sbuf_nest.specs.Runs.{begins_row, NoRowFrom}
use Rattle.sbuf_nest.specs.declared.mark.Extent.{Extent}
use Rattle.sbuf_nest.proofs.ClassRuns.{prefix_len-take}
use Rattle.decode_hex.specs.Hex.{paired, hex_extent, hex_run, hex_value, digit_number, IsText}
use Rattle.decode_hex.specs.Starts.{hex_starts}
use Rattle.vector_search.specs.Classes.{is_outside}
use Rattle.decode_hex.specs.declared.run.TheConstants.{COLUMNS, ROWS}
use Rattle.decode_hex.specs.declared.TheConstants.{DIGITS_LEAST, DIGITS_MOST}
use Rattle.decode_hex.specs.declared.value.TheConstants.{NUMBERS}

-- the tables tell the bytes that are no digits
pub no_digit : (byte : ℕ) → byte < 256 → is_outside COLUMNS ROWS byte ≡ not (hex_class byte)
unfolding hex_class
no_digit byte small = agree_below_at (is_outside COLUMNS ROWS) (λ b. not (hex_class b)) 256 byte refl small

-- ---- the run of a place

abbrev run_of : ℕ → Extent
run_of count = record { bytes = count; units = count }

-- what the look has where it has a run
module _ (look : Around) (near : ℕ) (is : near ≡ min DIGITS_MOST (length look.after)) (begins : begins_run hex_class look ≡ true) where
  seen_digits : prefix_len hex_class (take near look.after) ≡ min (prefix_len hex_class look.after) DIGITS_MOST
  seen_digits = omega (arith, is, prefix_len-take hex_class near look.after, prefix_len-le-length hex_class look.after)

  pub few_digits : prefix_len hex_class (take near look.after) < DIGITS_LEAST → hex_run look ≡ None
  unfolding hex_run hex_extent
  few_digits few =
      let none : nat_le DIGITS_LEAST (prefix_len hex_class look.after) ≡ false = grind (arith, nat_tests, seen_digits, few) in
      rw (begins, none) refl

  pub some_digits : DIGITS_LEAST ≤ prefix_len hex_class (take near look.after) →
      hex_run look ≡ Some (run_of (prefix_len hex_class (take near look.after) / 2 * 2))
  unfolding hex_run hex_extent
  some_digits enough =
      let some : nat_le DIGITS_LEAST (prefix_len hex_class look.after) ≡ true = grind (arith, nat_tests, seen_digits, enough) in
      let count : paired (min (prefix_len hex_class look.after) DIGITS_MOST) ≡ prefix_len hex_class (take near look.after) / 2 * 2 =
      omega (arith, seen_digits) in
      rw (begins, some) (ap (λ n. Some (run_of n)) count)

-- ---- what an extent says that was given for a place

abbrev if_some : Bool → ℕ → Option ℕ
if_some test count = cond test (Some count) None

module _ (after : List ℕ) (extent : Extent) where
  -- it covers no more than the digits in front
  given_bytes : (test : Bool) (count : ℕ) → option_map run_of (if_some test count) ≡ Some extent → extent.bytes ≡ count
  given_bytes true count is = sym (ap (λ (o : Option Extent). option_map_or (λ (e : Extent). e.bytes) o 0) is)
  given_bytes false count is = absurd (cc is)

  pub IsText-bytes : IsText after extent → extent.bytes ≡ paired (min (prefix_len hex_class after) DIGITS_MOST)
  unfolding hex_run hex_extent
  IsText-bytes given = given_bytes _ _ given.1

  pub IsText-within : IsText after extent → extent.bytes ≤ length after
  IsText-within given = omega (arith, IsText-bytes given, prefix_len-le-length hex_class after)

  pub IsText-digits : IsText after extent → AllPass hex_class (take extent.bytes after)
  IsText-digits given = λ k d within.
      let short = length-take extent.bytes after in
      let bytes = IsText-bytes given in
      ap hex_class (get_or-take extent.bytes after k d (omega (arith, within, short))) ∙ prefix_len_passes hex_class after k d (omega (arith, within, short, bytes))

  pub IsText-even : IsText after extent → extent.bytes % 2 ≡ 0
  IsText-even given = omega (arith, IsText-bytes given)

-- ---- what digits say

-- the table has the number of each digit
numbered : ℕ → Bool
numbered byte = not (hex_class byte) || ((slice_index NUMBERS byte == digit_number byte) && nat_lt (digit_number byte) 16)

all_numbered : (byte : ℕ) → byte < 256 → numbered byte ≡ true
unfolding numbered hex_class
all_numbered byte small = agree_below_at numbered (λ _. true) 256 byte refl small

-- a digit's number, and that it is below sixteen
pub digit_read : (digit : ℕ) → digit < 256 → hex_class digit ≡ true → (slice_index NUMBERS digit ≡ digit_number digit) × (digit_number digit < 16)
unfolding numbered
digit_read digit small is =
    let test : ((slice_index NUMBERS digit == digit_number digit) && nat_lt (digit_number digit) 16) ≡ true =
    rw is at (all_numbered digit small) in
    let parts = and_parts _ _ test in (eqb-true _ _ parts.0, ltb-true _ _ parts.1)

-- the byte that two digits give
abbrev pub pair_value : List ℕ → ℕ → ℕ
pair_value digits at = 16 * digit_number (slice_index digits (2 * at)) + digit_number (slice_index digits (2 * at + 1))

later_pair : (high low at : ℕ) (digits : List ℕ) → pair_value (high ∷ low ∷ digits) (suc at) ≡ pair_value digits at
later_pair high low at digits =
    let upper : 2 * suc at ≡ suc (suc (2 * at)) = omega arith in
    let lower : 2 * suc at + 1 ≡ suc (suc (2 * at + 1)) = omega arith in
    let number = λ (k : ℕ). digit_number (slice_index (high ∷ low ∷ digits) k) in
    ap (λ k. 16 * number k + number (2 * suc at + 1)) upper ∙ ap (λ k. 16 * number (suc (suc (2 * at))) + number k) lower

-- bytes of which each one is that of its two digits are their value
pub value_filled : (digits value : List ℕ) → length digits ≡ 2 * length value →
    ((at : ℕ) → at < length value → get_or value at 0 ≡ pair_value digits at) → value ≡ hex_value digits
unfolding hex_value
value_filled [] [] room are = refl
value_filled (high ∷ digits) [] room are = absurd (omega (arith, room))
value_filled [] (byte ∷ value) room are = absurd (omega (arith, room))
value_filled (high ∷ []) (byte ∷ value) room are = absurd (omega (arith, room))
value_filled (high ∷ low ∷ digits) (byte ∷ value) room are =
    let rest : value ≡ hex_value digits =
    value_filled digits value (omega (arith, room)) (λ at below. are (suc at) (omega (arith, below)) ∙ later_pair high low at digits) in
    cc (are 0 (omega arith), rest)

-- ---- where no run begins

pub none_passed : (bytes : List ℕ) (next end : ℕ) → NoRowFrom hex_class DIGITS_LEAST bytes next end → NoneFrom hex_starts bytes next end
unfolding begins_row hex_run hex_extent
none_passed bytes next end none place low high = rw (none place low high) refl
