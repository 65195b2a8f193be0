use Rattle.std.proofs.Common.{◌≡◌, ◌∙◌, ◌+◌, ◌<◌, ◌==◌, [], inl, inr, ap, sym, length, arith}
use Rattle.std.proofs.lemmas.Bool.{cases_lt, not-true}
use Rattle.sbuf_nest.specs.Around.{look_at}
use Rattle.decode_views.specs.Starts.{utf16_starts}
use Rattle.decode_views.specs.Utf16.{pairs_in, last_pairs}
use Rattle.decode_views.proofs.PairPlaces.{few_pairs, pair_ahead, none_over}
use Rattle.decode_views.proofs.find.next_run.Goals.{else-pairs-ge-PAIRS_LEAST-via-then-pairs-ge-PAIRS_LEAST+else-not-ends_in_pair, else-pairs-ge-PAIRS_LEAST-via-else-pairs-ge-PAIRS_LEAST}
use Rattle.decode_views.proofs.find.next_run.Goals as goal

pub loop-at-init : goal.loop-at-init
loop-at-init c = record {
  low = c.next_pairs-at.ensures.low;
  high = c.next_pairs-at.ensures.high;
  none = c.next_pairs-at.ensures.none;
}

pub loop-at-preserved : goal.loop-at-preserved
loop-at-preserved c =
    let bytes = c.args.bytes.now in
    let at = c.loop-at.at in
    let inv = c.loop-at.invariant in
    let before = c.split_at.result.0.now in
    let next = c.next_pairs-at-in-loop-at in
    let counted = ap pairs_in c.split_at.ensures.back in
    let within : at < length bytes = omega (arith, c.loop-at-test.true, c.requires.within) in
    let none : utf16_starts (look_at bytes at) at ≡ [] = elim c.else-pairs-ge-PAIRS_LEAST.branch [
      | else-pairs-ge-PAIRS_LEAST-via-then-pairs-ge-PAIRS_LEAST+else-not-ends_in_pair w ↦
          pair_ahead bytes at (omega (arith, within))
          (ap (λ front. last_pairs front == 0) (sym c.split_at.ensures.front) ∙ not-true (last_pairs before == 0) (sym w.ends_in_pair.ensures ∙ w.if-not-ends_in_pair.false))
      | else-pairs-ge-PAIRS_LEAST-via-else-pairs-ge-PAIRS_LEAST w ↦ few_pairs bytes at (omega (arith, counted, c.pairs_in-pairs.ensures, w.if-pairs-ge-PAIRS_LEAST.false))
    ] in record {
      low = omega (arith, inv.low, next.ensures.low);
      high = next.ensures.high;
      none = λ place low high. elim (cases_lt place at) [
        | inl ahead ↦ inv.none place low ahead
        | inr behind ↦ (
            elim (cases_lt place (at + c.min-behind.result)) [
              | inl over ↦ none_over bytes at c.pairs_in-pairs.result within (omega (arith, counted, c.pairs_in-pairs.ensures)) none place behind (omega (arith, over, c.min-behind.ensures))
              | inr further ↦ next.ensures.none place further high
            ]
            )
      ];
    }
