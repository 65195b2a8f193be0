use Rattle.std.proofs.Common.{rules, ◌≡◌, ◌+◌, ◌<◌, None, arith, sym, ap, refl, ◌∙◌, bytes_eq}
use Rattle.std.specs.Option.{unwrap_or}
use Rattle.std.proofs.lemmas.Map.Views.{All-values-set_value, All-values-PutsEntry}
use Rattle.count_histogram.specs.Counts.{rows_kept, AreAdded}
use Rattle.count_histogram.proofs.Adding.{counted, count_found, found}
use Rattle.count_histogram.proofs.counts.Counts.add.Goals as goal

pub overflow_add-count : goal.overflow_add-count
overflow_add-count c =
    let here = rw c.in-Some.is at c.get_mut.ensures.value in
    let count : c.in-Some.count.now ≡ unwrap_or (found c.self.inside.counts.entries c.args.item.now) 0 = ap (λ o. unwrap_or o 0) here in
    let was = count_found c.args.self.now c.args.item.now c.self.inside.counts.entries c.self.view_is in
    omega arith

pub invariant_of-self : goal.invariant_of-self
invariant_of-self c =
    let writes = c.get_mut.follows.holds (c.in-Some.count.now + 1) in
    let set : AreAdded _ = All-values-set_value (λ k. bytes_eq c.args.item.now k.items) (λ count. 0 < count) c.self.inside.counts.entries (c.in-Some.count.now + 1) c.self.invariant (omega arith) in
    rw writes.0 set

pub returns-in-Some-clause-added : goal.returns-in-Some-clause-added
returns-in-Some-clause-added c =
    let here = rw c.in-Some.is at c.get_mut.ensures.value in
    let count : c.in-Some.count.now ≡ unwrap_or (found c.self.inside.counts.entries c.args.item.now) 0 = ap (λ o. unwrap_or o 0) here in
    let writes = (c.get_mut.follows.holds (c.in-Some.count.now + 1)).3 (search rules) in
    counted c.args.self.now c.args.item.now c.args.item.now c.self.inside.counts.entries (c.get_mut.follows.lender (c.in-Some.count.now + 1)).entries (c.in-Some.count.now + 1)
    c.self.view_is refl (omega arith) writes.1 writes.3

pub invariant_of-self-2 : goal.invariant_of-self-2
invariant_of-self-2 c =
    let old : AreAdded c.get_mut.follows.lender-at-none.entries = rw c.get_mut.follows.holds-at-none c.self.invariant in
    All-values-PutsEntry (λ x y. bytes_eq x.items y.items) (λ count. 0 < count) c.get_mut.follows.lender-at-none c.insert.new.self c.in_ok-key.key 1 c.in_ok-insert.field-0
    c.in_ok-insert.ensures.entries old (omega arith)

pub returns-clause-added : goal.returns-clause-added
returns-clause-added c =
    let same = c.get_mut.follows.holds-at-none in
    let none = rw c.in_default.is at c.get_mut.ensures.value in
    let absent : found c.get_mut.follows.lender-at-none.entries c.in_ok-key.key.items ≡ None = rw (same, c.in_ok-key.ensures.items) (sym none) in
    let count = ap (λ o. unwrap_or o 0) absent in
    let u = c.in_ok-insert.ensures.updates in
    counted c.args.self.now c.args.item.now c.in_ok-key.key.items c.get_mut.follows.lender-at-none.entries c.insert.new.self.entries 1
    (ap (λ m. rows_kept m.entries) same ∙ c.self.view_is) c.in_ok-key.ensures.items (omega arith) u.1 u.3

-- an item that the look-up didn't find has the count 0, so no refusal is for one that was added
pub returns-in_err-key-clause-known : goal.returns-in_err-key-clause-known
returns-in_err-key-clause-known c added =
    let none = rw c.in_default.is at c.get_mut.ensures.value in
    let count = ap (λ o. unwrap_or o 0) none in
    let was = count_found c.args.self.now c.args.item.now c.self.inside.counts.entries c.self.view_is in
    absurd (omega arith)

pub returns-in_err-insert-clause-known : goal.returns-in_err-insert-clause-known
returns-in_err-insert-clause-known c added =
    let none = rw c.in_default.is at c.get_mut.ensures.value in
    let count = ap (λ o. unwrap_or o 0) none in
    let was = count_found c.args.self.now c.args.item.now c.self.inside.counts.entries c.self.view_is in
    absurd (omega arith)
