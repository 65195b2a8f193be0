use Rattle.std.proofs.Common.{◌≡◌, ◌∙◌, ◌++◌, ◌+◌, ◌-◌, length, take, drop, filter, sym, ap, arith}
use Rattle.std.proofs.lemmas.List.{length-append}
use Rattle.byte_kit.specs.Classes.{base64_class}
use Rattle.decode_base64.proofs.Gathers.{line_kept, line_fits, line_behind}
use Rattle.decode_base64.proofs.value.gather_letters.Goals as goal

pub slice_bounds-copy_from_slice-end : goal.slice_bounds-copy_from_slice-end
slice_bounds-copy_from_slice-end c =
    let fits = line_fits base64_class c.args.text.now c.loop-at.at c.split_at.result.1.now c.split_at-in-loop-at.result.0.now c.letters_len.result
    c.split_at.ensures.back c.letters_len.ensures.run c.split_at-in-loop-at.ensures.front in
    omega (arith, fits, c.loop-at.invariant.count, c.loop-at.auto.room, c.requires)

pub loop-at-preserved : goal.loop-at-preserved
loop-at-preserved c =
    let text = c.args.text.now in
    let old = c.args.room.now in
    let at = c.loop-at.at in
    let inv = c.loop-at.invariant in
    let line = c.split_at-in-loop-at.result.0.now in
    let n = c.letters_len.result in
    let kept = line_kept base64_class text at c.split_at.result.1.now line n c.split_at.ensures.back c.letters_len.ensures.run c.split_at-in-loop-at.ensures.front in
    let long : length line ≡ n = c.split_at-in-loop-at.ensures.front_len in
    let passed = ap (λ m. filter base64_class (take (at + (m + 1)) text)) long ∙ kept in
    let part : c.loop-at.count + length line - c.loop-at.count ≡ length line = omega arith in
    record {
      within = omega (arith, long, c.letters_len.ensures.within, c.split_at.ensures.back_len);
      count = omega (arith, inv.count, ap length passed, length-append (filter base64_class (take at text)) line);
      room = ap (λ ys. take c.loop-at.count c.loop-at.room ++ (ys ++ drop (c.loop-at.count + length line - c.loop-at.count) (drop c.loop-at.count c.loop-at.room))) c.copy_from_slice.ensures.after
          ∙ ap (λ k. take c.loop-at.count c.loop-at.room ++ (line ++ drop k (drop c.loop-at.count c.loop-at.room))) part
          ∙ line_behind (filter base64_class (take at text)) old c.loop-at.room line c.loop-at.count (length line) inv.count inv.room
          ∙ ap (λ ys. ys ++ drop (c.loop-at.count + length line) old) (sym passed);
    }
