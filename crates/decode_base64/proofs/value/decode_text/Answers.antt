use Rattle.std.proofs.Common.{◌≡◌, ◌*◌, sym, subst, refl, arith, true}
use Rattle.std.specs.List.{AllPass}
use Rattle.byte_kit.specs.Classes.{base64_class}
use Rattle.std.proofs.lemmas.List.Elements.{All-drop}
use Rattle.decode_base64.specs.Text.{letter_count}
use Rattle.decode_base64.proofs.Bits.{all_letters, value_decoded}
use Rattle.decode_base64.proofs.value.decode_text.Goals as goal

pub decode_groups-requires-clause-letters : goal.decode_groups-requires-clause-letters
decode_groups-requires-clause-letters c =
    let text = c.args.text.now in
    let room = c.split_at_mut-value.result.1.now in
    let full : AllPass base64_class room =
    subst (AllPass base64_class) (sym c.split_at_mut-value.ensures.back) (All-drop (λ x. base64_class x ≡ true) (3 * c.args.groups) c.args.room.now c.requires.letters) in
    subst (AllPass base64_class) (sym c.gather_letters.ensures) (all_letters text room (letter_count text) full)

pub returns : goal.returns
returns c =
    let text = c.args.text.now in
    value_decoded text c.split_at_mut-value.result.1.now c.decode_groups.new.value c.gather_letters.new.room (letter_count text) refl c.gather_letters.ensures c.decode_groups.ensures
    (omega (arith, c.decode_groups.auto.value, c.split_at_mut-value.ensures.front_len, c.requires.enough))
