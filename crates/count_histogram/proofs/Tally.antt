-- Rows of which each item has one: which rows are there is what the counts say.
use Rattle.std.proofs.Common.{arith, ◌≡◌, refl, sym, subst, ◌∙◌, ℕ, ◌<◌, true, false, ◌==◌, List, [], ◌∷◌, bytes_eq, All, map}
use Rattle.std.specs.Ordering.{eq_by_cmp, is_eq}
use Rattle.std.specs.Cmp.{both_ways}
use Rattle.std.specs.Cmp.Lexicographic.{bytes_decides, nat_list_eq_equiv}
use Rattle.std.specs.List.{list_any, AllByRecursion, IsDistinct}
use Rattle.std.specs.declared.cmp.Ordering.{Ordering}
use Rattle.std.specs.declared.cmp.Ordering.TheVariants.{Less, Equal, Greater}
use Rattle.std.proofs.lemmas.Bool.{cases_Bool, and_from, and_right, eq-eqb, or_right}
use Rattle.std.proofs.lemmas.List.Elements.{All-head, All-tail}
use Rattle.count_histogram.specs.declared.row.Row.{Row}
use Rattle.count_histogram.specs.Counts.{count_in, IsTally}
use Rattle.count_histogram.proofs.Ahead.{order, exact, ties}
use mathlib.Core.Logic.{⊎_elim}

abbrev items_in : List Row → List (List ℕ)
items_in rows = map (λ row. row.item) rows

-- an item that no row has counts nothing
absent : (item : List ℕ) (rows : List Row) → AllByRecursion (λ other. bytes_eq item other ≡ false) (items_in rows) → count_in rows item ≡ 0
absent item [] h = refl
absent item (row ∷ rows) h = rw h.0 (absent item rows h.1)

equal : (o : Ordering) → is_eq o ≡ true → o ≡ Equal
equal Less e = absurd (cc)
equal Equal e = refl
equal Greater e = absurd (cc)

-- a row that is there has the count of its item, which is positive
there : (rows : List Row) → IsDistinct bytes_eq (items_in rows) → All (λ row. 0 < row.count) rows → (row : Row) → list_any (eq_by_cmp order row) rows ≡ true → (count_in rows row.item ≡ row.count) × (0 < row.count)
unfolding IsDistinct
there [] once added row e = absurd (cc)
there (first ∷ rows) once added row e =
    ⊎_elim
    (λ y. let same : row ≡ first = exact row first (equal (order row first) y) in
    let itself = nat_list_eq_equiv.refl first.item in
    subst (λ (r : Row). (count_in (first ∷ rows) r.item ≡ r.count) × (0 < r.count)) (sym same) (rw itself refl, All-head (λ row. 0 < row.count) first rows added))
    (λ n. let rest : list_any (eq_by_cmp order row) rows ≡ true = rw n at e in
    let found = there rows once.1 (All-tail (λ row. 0 < row.count) first rows added) row rest in
    ⊎_elim
    (λ y. let is : row.item ≡ first.item = (bytes_decides row.item first.item).0 y in
    let zero : count_in rows row.item ≡ 0 = rw is (absent first.item rows once.0) in
    absurd (omega arith))
    (λ apart. (rw apart found.0, found.1))
    (cases_Bool (bytes_eq row.item first.item)))
    (cases_Bool (eq_by_cmp order row first))

-- a row with the count of its item, which is positive, is there
here : (rows : List Row) (row : Row) → count_in rows row.item ≡ row.count → 0 < row.count → list_any (eq_by_cmp order row) rows ≡ true
here [] row e positive = absurd (omega arith)
here (first ∷ rows) row e positive =
    ⊎_elim
    (λ y. let count : first.count ≡ row.count = rw y at e in
    let tied : eq_by_cmp order row first ≡ true = ties row first ∙ and_from (first.count == row.count) (bytes_eq row.item first.item) (eq-eqb first.count row.count count) y in
    rw tied refl)
    (λ apart. or_right (eq_by_cmp order row first) (list_any (eq_by_cmp order row) rows) (here rows row (rw apart at e) positive))
    (cases_Bool (bytes_eq row.item first.item))

-- two such lists of rows with the same counts have the same rows
pub agree : (xs ys : List Row) → IsTally xs → IsTally ys → ((item : List ℕ) → count_in xs item ≡ count_in ys item) → (row : Row) → list_any (eq_by_cmp order row) xs ≡ list_any (eq_by_cmp order row) ys
agree xs ys tx ty counts row = both_ways _ _
    (λ e. let h = there xs tx.once tx.added row e in here ys row (sym (counts row.item) ∙ h.0) h.1)
    (λ e. let h = there ys ty.once ty.added row e in here xs row (counts row.item ∙ h.0) h.1)

-- rows with different items don't tie
apart_rows : (row : Row) (rows : List Row) → AllByRecursion (λ other. bytes_eq row.item other ≡ false) (items_in rows) → AllByRecursion (λ r. eq_by_cmp order row r ≡ false) rows
apart_rows row [] h = tt
apart_rows row (r ∷ rows) h = (ties row r ∙ and_right (r.count == row.count) (bytes_eq row.item r.item) h.0, apart_rows row rows h.1)

pub untied : (rows : List Row) → IsDistinct bytes_eq (items_in rows) → IsDistinct (eq_by_cmp order) rows
unfolding IsDistinct
untied [] h = tt
untied (row ∷ rows) h = (apart_rows row rows h.0, untied rows h.1)
