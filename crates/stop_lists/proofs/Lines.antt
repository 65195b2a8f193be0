-- The entries of the lines of a list, one line after another.
use Rattle.std.specs.Prelude.{◌≡◌, ℕ, ◌==◌, List, [], ◌∷◌, ◌++◌, Option, Some, None, option_to_list, refl}
use Rattle.std.specs.List.{cons_option, filter_map, slice_split}
use Rattle.std.specs.Str.Lines.{strip_carriage_return}
use Rattle.std.proofs.Common.{sym, ◌∙◌, ap, append_assoc, append-nil}
use Rattle.stop_lists.specs.Lists.{Entry, entry_in, entries_of}

-- the entry of a line, and those of all lines
abbrev pub line_entry : List ℕ → Option Entry
line_entry line = entry_in (strip_carriage_return line)

abbrev pub lines_entries : List ℕ → List Entry
lines_entries text = filter_map line_entry (slice_split (λ byte. byte == 10) text)

one_more : (o : Option Entry) (entries : List Entry) → cons_option o entries ≡ option_to_list o ++ entries
one_more None entries = refl
one_more (Some x) entries = refl

-- one more line is read
pub more_lines : (got all : List Entry) (rest line more : List ℕ) → got ++ lines_entries rest ≡ all
    → slice_split (λ byte. byte == 10) rest ≡ line ∷ slice_split (λ byte. byte == 10) more
    → (got ++ option_to_list (line_entry line)) ++ lines_entries more ≡ all
more_lines got all rest line more read cut =
    let first : lines_entries rest ≡ option_to_list (line_entry line) ++ lines_entries more =
    ap (filter_map line_entry) cut ∙ one_more (line_entry line) (lines_entries more) in
    append_assoc got (option_to_list (line_entry line)) (lines_entries more) ∙ (ap (λ entries. got ++ entries) (sym first) ∙ read)

-- the last line is read
pub last_line : (got all : List Entry) (rest : List ℕ) → got ++ lines_entries rest ≡ all
    → slice_split (λ byte. byte == 10) rest ≡ rest ∷ [] → got ++ option_to_list (line_entry rest) ≡ all
last_line got all rest read cut =
    let first : lines_entries rest ≡ option_to_list (line_entry rest) =
    ap (filter_map line_entry) cut ∙ (one_more (line_entry rest) [] ∙ append-nil (option_to_list (line_entry rest))) in
    ap (λ entries. got ++ entries) (sym first) ∙ read

pub all_lines : (list : List ℕ) → lines_entries list ≡ entries_of list
unfolding entries_of
all_lines list = refl
