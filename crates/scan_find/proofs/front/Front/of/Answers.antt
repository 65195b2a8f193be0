use Rattle.std.proofs.Common.{◌≡◌, ℕ, List, get_or, subst, arith, inl, inr}
use Rattle.std.proofs.lemmas.Bool.{cases_lt}
use Rattle.std.proofs.lemmas.List.{get_or_read}
use Rattle.scan_find.specs.Front.{LetsKeyword, PassesMore}
use Rattle.scan_find.specs.declared.front.Front.{Front}
use Rattle.scan_find.proofs.front.Front.of.Goals as goal

-- a keyword passes a test that lets more pass
still_passes : (old new : Front) (keyword : List ℕ) → PassesMore old.first new.first → PassesMore old.second new.second → PassesMore old.third new.third →
    LetsKeyword old keyword → LetsKeyword new keyword
still_passes old new keyword first second third passes = record {
  first = λ byte small is. first byte _ (passes.first byte small is);
  second = λ byte small is. second byte _ (passes.second byte small is);
  third = λ byte small is. third byte _ (passes.third byte small is);
}

pub loop-k-preserved : goal.loop-k-preserved
loop-k-preserved c = λ k d below.
    let keywords = c.args.keywords.now in
    let at = c.loop-k.k in
    let kept = c.let_keyword.ensures in
    elim (cases_lt k at) [
      | inl low ↦ still_passes c.loop-k.front c.let_keyword.new.self (get_or keywords k d) kept.first kept.second kept.third (c.loop-k.invariant k d low)
      | inr high ↦
          let same : at ≡ k = omega (arith, below, high) in
          let read = get_or_read keywords at c.index-keywords-k.result (omega arith) c.index-keywords-k.is d in
          subst (λ j. LetsKeyword c.let_keyword.new.self (get_or keywords j d)) same
          (subst (LetsKeyword c.let_keyword.new.self) read (subst (LetsKeyword c.let_keyword.new.self) c.as_slice.ensures kept.added))
    ]

pub returns : goal.returns
returns c = λ k d below. c.loop-k.invariant k d (omega (arith, below, c.loop-k-test.false))
