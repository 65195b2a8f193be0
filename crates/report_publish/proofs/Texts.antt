-- The text of a file, feature by feature.
use Rattle.std.proofs.Common.{◌≡◌, ◌∙◌, ℕ, Bool, true, false, cond, List, [], ◌∷◌, ◌++◌, filter, flat_map, ap, sym, append-nil, append_assoc}
use Rattle.std.proofs.lemmas.Grind.{flat_map-append}
use Rattle.std.proofs.lemmas.List.Elements.{filter-append}
use Rattle.forensic_path.specs.declared.feature.Classed.{Classed}
use Rattle.feature_file.specs.FeatureFile.{header_of, line_text, stands_in, file_text}

-- the lines of one more feature are those of before and those of the feature
lines_more : (number : ℕ) (list : List Classed) (item : Classed) (own : List ℕ) →
    flat_map line_text (filter (stands_in number) (item ∷ [])) ≡ own →
    flat_map line_text (filter (stands_in number) (list ++ item ∷ [])) ≡ flat_map line_text (filter (stands_in number) list) ++ own
lines_more number list item own is =
    ap (flat_map line_text) (filter-append (stands_in number) list (item ∷ []))
    ∙ flat_map-append line_text (filter (stands_in number) list) (filter (stands_in number) (item ∷ []))
    ∙ ap (λ more. flat_map line_text (filter (stands_in number) list) ++ more) is

abbrev lines_if : Classed → Bool → List ℕ
lines_if item stands = flat_map line_text (cond stands (item ∷ []) [])

-- without a feature it is the header
pub text_none : (number : ℕ) → file_text number [] ≡ header_of number
unfolding file_text
text_none number = append-nil (header_of number)

-- a feature that stands in the file adds its line
pub text_more : (number : ℕ) (list : List Classed) (item : Classed) → stands_in number item ≡ true →
    file_text number (list ++ item ∷ []) ≡ file_text number list ++ line_text item
unfolding file_text
text_more number list item is =
    ap (λ lines. header_of number ++ lines)
    (lines_more number list item (line_text item) (ap (lines_if item) is ∙ append-nil (line_text item)))
    ∙ sym (append_assoc (header_of number) (flat_map line_text (filter (stands_in number) list)) (line_text item))

-- any other feature adds nothing
pub text_same : (number : ℕ) (list : List Classed) (item : Classed) → stands_in number item ≡ false →
    file_text number (list ++ item ∷ []) ≡ file_text number list
unfolding file_text
text_same number list item is =
    ap (λ lines. header_of number ++ lines)
    (lines_more number list item [] (ap (lines_if item) is) ∙ append-nil (flat_map line_text (filter (stands_in number) list)))
