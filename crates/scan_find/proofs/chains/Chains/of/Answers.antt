use Rattle.std.proofs.Common.{◌≡◌, ◌∙◌, ◌+◌, ◌-◌, ℕ, List, length, get_or, replicate, ap, subst, arith}
use Rattle.std.proofs.lemmas.List.{get_or_read, length-replicate}
use Rattle.scan_find.proofs.ChainSteps.{AreLast, none_chained, one_more_chained}
use Rattle.scan_find.proofs.chains.Chains.of.Goals as goal

pub loop-behind-init : goal.loop-behind-init
loop-behind-init c =
    let keywords = c.args.keywords.now in
    let e : length keywords ≡ length keywords - 0 = omega arith in
    subst (AreLast keywords (replicate 256 (length keywords)) (replicate 64 0)) e (none_chained keywords (replicate 64 0) (length-replicate {A = ℕ} 64 0))

pub loop-behind-preserved : goal.loop-behind-preserved
loop-behind-preserved c =
    let keywords = c.args.keywords.now in
    let behind = c.loop-behind.behind in
    let which = length keywords - 1 - behind in
    let byte = c.first_byte-byte.result in
    let from : length keywords - behind ≡ which + 1 = omega (arith, c.loop-behind-test.true) in
    let to : which ≡ length keywords - (behind + 1) = omega arith in
    subst (AreLast keywords _ _) to
    (one_more_chained keywords c.loop-behind.heads c.loop-behind.nexts which byte
    (subst (AreLast keywords c.loop-behind.heads c.loop-behind.nexts) from c.loop-behind.invariant)
    (omega (arith, c.loop-behind-test.true)) c.requires.few c.first_byte-byte.type_inv
    (λ d. c.first_byte-byte.ensures ∙ ap (λ (bytes : List ℕ). get_or bytes 0 0)
    (get_or_read keywords which c.index-keywords-which.result (omega (arith, c.loop-behind-test.true)) c.index-keywords-which.is d)))

pub returns : goal.returns
returns c =
    let keywords = c.args.keywords.now in
    let none : length keywords - c.loop-behind.behind ≡ 0 = omega (arith, c.loop-behind-test.false) in
    let last = subst (AreLast keywords c.loop-behind.heads c.loop-behind.nexts) none c.loop-behind.invariant in record {
      first = last.first;
      next = λ k d within. last.next k d (omega arith) within;
    }
