-- What counting one more item changes.
use Rattle.std.proofs.Common.{◌≡◌, refl, sym, ap, subst, ◌∙◌, ℕ, ◌+◌, Bool, true, false, cond, List, [], ◌∷◌, ◌++◌, Vec, Option, Some, bytes_eq, arith}
use Rattle.std.specs.Option.{unwrap_or}
use Rattle.std.specs.Map.{lookup, KeepsOthers}
use Rattle.std.proofs.lemmas.Bool.{cases_Bool, cond-true, cond-false}
use Rattle.std.proofs.lemmas.List.Sums.{sum_by_push}
use Rattle.count_histogram.specs.declared.row.Row.{Row}
use Rattle.count_histogram.specs.Counts.{count_in, AreCounts, rows_kept}
use mathlib.Core.Logic.{⊎_elim}
use Rattle.std.specs.Cmp.Lexicographic.{bytes_decides, nat_list_eq_equiv}

-- one item counts one more, and the others stay
abbrev pub Adds : List Row → List ℕ → List Row → Type 0
Adds old item new = (q : List ℕ) → count_in new q ≡ count_in old q + cond (bytes_eq q item) 1 0

-- with the item, the counts are those of the list with it
pub more : (old new : List Row) (item : List ℕ) → Adds old item new → (items : List (List ℕ)) → AreCounts old items → AreCounts new (items ++ item ∷ [])
more old new item adds items counts q = adds q ∙ ap (λ n. n + cond (bytes_eq q item) 1 0) (counts q) ∙ sym (sum_by_push (λ x. cond (bytes_eq q x) 1 0) items item)

by_test : (b : Bool) (n m : ℕ) (r : Option ℕ) → m ≡ unwrap_or r 0 → cond b n m ≡ unwrap_or (cond b (Some n) r) 0
by_test true n m r e = refl
by_test false n m r e = e

abbrev pub found : {Z : Type 0} → List (Vec ℕ Z × ℕ) → List ℕ → Option ℕ
found es q = lookup (λ k. bytes_eq q k.items) es

-- a count is what a look-up among those kept finds
pub kept : {Z : Type 0} (q : List ℕ) (es : List (Vec ℕ Z × ℕ)) → count_in (rows_kept es) q ≡ unwrap_or (found es q) 0
kept q [] = refl
kept q (e ∷ es) = by_test (bytes_eq q e.0.items) e.1 (count_in (rows_kept es) q) (found es q) (kept q es)

-- what a write at an item leaves at another
apart : (bs cs ks : List ℕ) → bytes_eq bs cs ≡ false → bytes_eq bs ks ≡ true → bytes_eq cs ks ≡ false
apart bs cs ks n y = nat_list_eq_equiv.symm cs ks ∙ sym (nat_list_eq_equiv.congr bs ks cs y) ∙ n

module _ {Z : Type 0} (bs : List ℕ) (old new : List (Vec ℕ Z × ℕ)) where
  others : KeepsOthers (λ x y. bytes_eq x.items y.items) (λ k. bytes_eq bs k.items) old new → (cs : List ℕ) → bytes_eq bs cs ≡ false → found new cs ≡ found old cs
  unfolding KeepsOthers
  others keeps cs ne = keeps (λ k. bytes_eq cs k.items) (λ x y. nat_list_eq_equiv.congr cs x.items y.items) (λ k. apart bs cs k.items ne)

  pub adds : (n : ℕ) → n ≡ unwrap_or (found old bs) 0 + 1 → found new bs ≡ Some n
      → KeepsOthers (λ x y. bytes_eq x.items y.items) (λ k. bytes_eq bs k.items) old new
      → Adds (rows_kept old) bs (rows_kept new)
  adds n is here keeps q =
      let was : count_in (rows_kept old) q ≡ unwrap_or (found old q) 0 = kept q old in
      let now : count_in (rows_kept new) q ≡ unwrap_or (found new q) 0 = kept q new in
      let same : bytes_eq q bs ≡ true → q ≡ bs = (bytes_decides q bs).0 in
      let turn : bytes_eq q bs ≡ bytes_eq bs q = nat_list_eq_equiv.symm q bs in
      ⊎_elim
      (λ y. let e : q ≡ bs = same y in
      let f : found new q ≡ found new bs = ap (found new) e in
      let g : found old q ≡ found old bs = ap (found old) e in
      let u : unwrap_or (found new q) 0 ≡ n = ap (λ o. unwrap_or o 0) (f ∙ here) in
      let v : unwrap_or (found old q) 0 ≡ unwrap_or (found old bs) 0 = ap (λ o. unwrap_or o 0) g in
      let w : cond {A = ℕ} (bytes_eq q bs) 1 0 ≡ 1 = cond-true (bytes_eq q bs) 1 0 y in
      omega arith)
      (λ y. let f : found new q ≡ found old q = others keeps q (sym turn ∙ y) in
      let u : unwrap_or (found new q) 0 ≡ unwrap_or (found old q) 0 = ap (λ o. unwrap_or o 0) f in
      let w : cond {A = ℕ} (bytes_eq q bs) 1 0 ≡ 0 = cond-false (bytes_eq q bs) 1 0 y in
      omega arith)
      (cases_Bool (bytes_eq q bs))

-- the same, for what the calls of a map say of it: the rows before, the count before, the item as the key has it
pub counted : {Z : Type 0} (rows : List Row) (item bs : List ℕ) (old new : List (Vec ℕ Z × ℕ)) (n : ℕ) → rows_kept old ≡ rows → bs ≡ item
    → n ≡ unwrap_or (found old bs) 0 + 1 → found new bs ≡ Some n
    → KeepsOthers (λ x y. bytes_eq x.items y.items) (λ k. bytes_eq bs k.items) old new
    → (items : List (List ℕ)) → AreCounts rows items → AreCounts (rows_kept new) (items ++ item ∷ [])
counted rows item bs old new n seen same count here keeps =
    let change : Adds (rows_kept old) bs (rows_kept new) = adds bs old new n count here keeps in
    let changed = subst (λ (r : List Row). Adds r bs (rows_kept new)) seen change in
    more rows (rows_kept new) item (subst (λ (i : List ℕ). Adds rows i (rows_kept new)) same changed)

-- the count of an item, by the look-up
pub count_found : {Z : Type 0} (rows : List Row) (item : List ℕ) (es : List (Vec ℕ Z × ℕ)) → rows_kept es ≡ rows → count_in rows item ≡ unwrap_or (found es item) 0
count_found rows item es seen = subst (λ (r : List Row). count_in r item ≡ unwrap_or (found es item) 0) seen (kept item es)
