use Rattle.std.proofs.Common.{◌∙◌, ◌*◌, ◌/◌, ap, sym, subst, take, arith}
use Rattle.std.specs.List.{AllPass}
use Rattle.std.proofs.lemmas.List.{take_at}
use Rattle.byte_kit.specs.Classes.{base64_class}
use Rattle.decode_base64.specs.Base64.{base64_value}
use Rattle.decode_base64.specs.Text.{letter_count}
use Rattle.decode_base64.proofs.Bits.{filled}
use Rattle.decode_base64.proofs.Texts.{given_within, given_letters}
use Rattle.decode_base64.proofs.value.b64_value.Goals as goal

pub split_at-requires : goal.split_at-requires
split_at-requires c = given_within c.args.after.now c.args.extent c.requires.given

pub decode_text-requires-clause-letters : goal.decode_text-requires-clause-letters
decode_text-requires-clause-letters c =
    subst (AllPass base64_class) (sym c.as_mut_slice.ensures.value)
    (filled _ _ c.clear.new.self.items c.resize.new.self.items c.in_ok-resize.ensures.items c.clear.ensures.items)

pub decode_text-requires-clause-enough : goal.decode_text-requires-clause-enough
decode_text-requires-clause-enough c =
    let count = given_letters c.args.after.now c.args.extent c.requires.given ∙ ap letter_count (sym c.split_at.ensures.front) in
    omega (arith, count, c.div_ceil-groups.ensures)

pub returns-clause-value : goal.returns-clause-value
returns-clause-value c =
    let count = given_letters c.args.after.now c.args.extent c.requires.given ∙ ap letter_count (sym c.split_at.ensures.front) in
    c.truncate.ensures.items
    ∙ ap (take (c.args.extent.units * 6 / 8)) (take_at c.decode_text.new.room _ _ (c.decode_text.auto.room ∙ c.as_mut_slice.ensures.len))
    ∙ ap (λ n. take (n * 6 / 8) c.decode_text.new.room) count
    ∙ c.decode_text.ensures ∙ ap base64_value c.split_at.ensures.front
