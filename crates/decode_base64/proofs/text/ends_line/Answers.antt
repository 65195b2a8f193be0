use Rattle.std.proofs.Common.{◌≡◌, ◌∙◌, ◌-◌, ◌&&◌, ap, sym, length, take, drop, nat_eq, nat_le, true}
use Rattle.std.specs.List.{prefix_len, suffix_len, ends_with}
use Rattle.byte_kit.specs.Classes.{base64_class}
use Rattle.decode_base64.proofs.LineEnds.{last_letters}
use Rattle.decode_base64.proofs.text.ends_line.Goals as goal

pub returns : goal.returns
returns c =
    let line = c.split_at.result.0.now in
    let front : line ≡ take (length c.args.bytes.now - length c.args.line_break.now) c.args.bytes.now = c.split_at.ensures.front in
    let ends : ends_with nat_eq c.args.bytes.now c.args.line_break.now ≡ true = sym c.ends_with.ensures.value ∙ c.if-not-ends_with.false in
    let run = c.letters_len.ensures.run ∙ ap (prefix_len base64_class) (c.split_at-2.ensures.back ∙ ap (λ n. drop n line) c.saturating_sub.ensures) in
    ap (λ n. nat_eq n 32) run ∙ last_letters base64_class line 32
    ∙ ap (λ xs. nat_le 32 (suffix_len base64_class xs)) front
    ∙ ap (λ b. b && nat_le 32 (suffix_len base64_class (take (length c.args.bytes.now - length c.args.line_break.now) c.args.bytes.now))) (sym ends)
