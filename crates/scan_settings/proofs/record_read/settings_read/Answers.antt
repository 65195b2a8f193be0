use Rattle.std.proofs.Common.{◌≡◌, ◌≤◌, ℕ, List, length, true, false, sym, subst, ap, ◌∙◌, arith}
use Rattle.std.specs.List.{All}
use Rattle.std.specs.Str.{IsUtf8}
use Rattle.scan_settings.specs.Record.{record_of}
use Rattle.scan_settings.specs.Fields.{is_ranged, patterns_at}
use Rattle.scan_settings.proofs.Back.{record_long, patterns_back, same_kept}
use Rattle.scan_settings.proofs.KeptRanges.{plan_ranged, kept_ranged, ranged_of}
use Rattle.scan_settings.proofs.record_read.settings_read.Goals as goal
use Rattle.scan_settings.proofs.record_read.settings_read.Goals.{else-is_ranged-via-then-is_ranged+in_ok-is_record+else-branch, else-is_ranged-via-else-is_ranged}

pub returns-then-bytes-lt-RECORD_LEAST-clause-none : goal.returns-then-bytes-lt-RECORD_LEAST-clause-none
returns-then-bytes-lt-RECORD_LEAST-clause-none c = λ kept is text.
    let long : 51 ≤ length c.args.bytes.now = subst (λ (bytes : List ℕ). 51 ≤ length bytes) text (record_long kept) in
    absurd (omega (arith, long, c.if-bytes-lt-RECORD_LEAST.true))

pub returns-in_default-clause-none : goal.returns-in_default-clause-none
returns-in_default-clause-none c = λ kept is text.
    (rw c.in_default.is at c.in_ok-kept.ensures.none)
    (subst (λ (bytes : List ℕ). All IsUtf8 (patterns_at bytes)) text (subst (All IsUtf8) (sym (patterns_back kept is)) is.utf8))

pub is_record-requires : goal.is_record-requires
is_record-requires c =
    let sizes = rw c.in-Some.is at c.in_ok-kept.ensures.sizes in
    plan_ranged c.in-Some.kept sizes.mask (sym c.is_ranged.ensures ∙ c.if-is_ranged.true)

pub returns-then-branch-clause-kept : goal.returns-then-branch-clause-kept
returns-then-branch-clause-kept c =
    let sizes = rw c.in-Some.is at c.in_ok-kept.ensures.sizes in
    kept_ranged c.in-Some.kept sizes.image sizes.stop sizes.alert sizes.mask (sym c.is_ranged.ensures ∙ c.if-is_ranged.true)
    (rw c.in-Some.is at c.in_ok-kept.ensures.utf8)

pub returns-else-is_ranged-clause-none : goal.returns-else-is_ranged-clause-none
returns-else-is_ranged-clause-none c = λ kept is text.
    let same : c.in-Some.kept ≡ kept = same_kept c.in-Some.kept kept c.args.bytes.now (rw c.in-Some.is at c.in_ok-kept.ensures.some) is text in
    elim c.else-is_ranged.branch [
      | else-is_ranged-via-then-is_ranged+in_ok-is_record+else-branch w ↦
          let differ : true ≡ false = sym (w.in_ok-is_record.ensures.1 (ap record_of same ∙ text)) ∙ w.if-branch.false in cc
      | else-is_ranged-via-else-is_ranged w ↦
          let differ : true ≡ false = sym (ap is_ranged same ∙ ranged_of kept is) ∙ sym w.if-is_ranged.ensures in cc
    ]
