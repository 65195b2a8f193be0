use Rattle.std.proofs.Common.{◌≡◌, ◌∙◌, ◌≤◌, ◌+◌, ℕ, Bool, List, IsTrue, arith, refl, sym, ap, suc, [], ◌∷◌, map, subst}
use Rattle.std.specs.Prelude.{slice_index_or}
use Rattle.std.proofs.lemmas.List.{map-append}
use Rattle.pattern_kit.specs.Building.{Refusals}
use Rattle.triage_run.proofs.Readings.{read_more}
use Rattle.triage_run.proofs.patterns.build_matchers.Goals as goal

pub loop-index-init : goal.loop-index-init
loop-index-init g c = rw c.new-matchers.ensures.items (record { same = refl; sure = refl; read = tt })

pub build_one-requires : goal.build_one-requires
build_one-requires g c =
    let index = c.loop-index.index in
    let text = c.as_str-text.ensures ∙ c.index-patterns-index.is in
    let asked = c.requires.asked index c.index-patterns-index.result c.loop-index-test.true in
    record {
      asked = subst (λ (may_build : ℕ → List ℕ → Bool). IsTrue (may_build index c.as_str-text.result.now)) (sym c.loop-index.invariant.same)
          (subst (λ text. IsTrue (g.K.Kit.may_build c.args.kit.now index text)) (sym text) asked);
    }

pub returns-in_err-matcher-clause-kit : goal.returns-in_err-matcher-clause-kit
returns-in_err-matcher-clause-kit g c =
    let inv = c.loop-index.invariant in
    let kept = c.build_one.ensures.kit in
    record {
      same = kept.same ∙ inv.same;
      later = subst (λ (before : Refusals). before.count ≤ (g.K.Kit.refusals c.build_one.new.kit).count) inv.sure kept.later;
    }

pub loop-index-preserved : goal.loop-index-preserved
loop-index-preserved g c =
    let inv = c.loop-index.invariant in
    let reading = g.K.M.Matcher.reading in
    let index = c.loop-index.index in
    let texts = c.args.patterns.now in
    let matcher = c.in_ok-matcher.matcher in
    let here : g.K.M.Matcher.reads (slice_index_or texts index c.index-patterns-index.result) (reading matcher)
    = subst (λ text. g.K.M.Matcher.reads text (reading matcher)) (c.as_str-text.ensures ∙ c.index-patterns-index.is) c.in_ok-matcher.ensures.read in
    let more = read_more g.K.M.Matcher.reads texts (map reading c.loop-index.matchers.items) index c.index-patterns-index.result (reading matcher)
    c.loop-index-test.true inv.read here in
    let behind : suc index ≡ index + 1 = omega arith in
    let added = ap (map reading) c.in-Ok.ensures.items ∙ map-append reading c.loop-index.matchers.items (matcher ∷ []) in
    record {
      same = c.build_one.ensures.kit.same ∙ inv.same;
      sure = c.in_ok-matcher.ensures.sure ∙ inv.sure;
      read = rw added (rw behind at more);
    }
