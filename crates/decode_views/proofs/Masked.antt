-- A place of the view looks as that place of the bytes does, XORed.
use Rattle.std.proofs.Common.{◌≡◌, ◌∙◌, ℕ, ◌-◌, List, take, drop, ap}
use Rattle.std.specs.Prelude.{bit_xor}
use Rattle.std.proofs.lemmas.List.{take-map, drop-map}
use Rattle.sbuf_nest.specs.Around.{Around, look_at}
use Rattle.sbuf_nest.specs.declared.look.TheConstants.{LOOK_BEFORE, LOOK_AFTER}
use Rattle.decode_views.specs.Xor.{xored_bytes, xored}

same_around : {a b c d : List ℕ} → a ≡ b → c ≡ d →
    ◌≡◌ {A = Around} (record { before = a; after = c }) (record { before = b; after = d })
same_around p q = cc

pub view_look : (mask : ℕ) (bytes : List ℕ) (place : ℕ) → look_at (xored_bytes mask bytes) place ≡ xored mask (look_at bytes place)
unfolding look_at xored
view_look mask bytes place =
    same_around
    (ap (λ (ahead : List ℕ). drop (place - LOOK_BEFORE) ahead) (take-map (bit_xor mask) place bytes) ∙ drop-map (bit_xor mask) (place - LOOK_BEFORE) (take place bytes))
    (ap (λ (rest : List ℕ). take LOOK_AFTER rest) (drop-map (bit_xor mask) place bytes) ∙ take-map (bit_xor mask) LOOK_AFTER (drop place bytes))
