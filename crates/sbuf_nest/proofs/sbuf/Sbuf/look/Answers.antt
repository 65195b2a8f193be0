use Rattle.std.proofs.Common.{◌≡◌, ◌∙◌, ◌-◌, ℕ, List, ap, take, drop}
use Rattle.std.proofs.lemmas.List.{take_min}
use Rattle.sbuf_nest.specs.Around.{Around, look_at}
use Rattle.sbuf_nest.specs.declared.look.TheConstants.{LOOK_BEFORE, LOOK_AFTER}
use Rattle.sbuf_nest.proofs.sbuf.Sbuf.look.Goals as goal

-- a Look is the same where its two parts are
same_around : {a b c d : List ℕ} → a ≡ b → c ≡ d →
    ◌≡◌ {A = Around} (record { before = a; after = c }) (record { before = b; after = d })
same_around p q = cc

pub returns : goal.returns
unfolding look_at
returns c =
    let ahead = c.split_at.result.0.now in
    let rest = c.split_at.result.1.now in
    same_around
    (c.split_at-2.ensures.back ∙ ap (λ (k : ℕ). drop k ahead) c.saturating_sub.ensures ∙ ap (drop (c.args.i - LOOK_BEFORE)) c.split_at.ensures.front)
    (c.split_at-3.ensures.front ∙ ap (λ (k : ℕ). take k rest) c.min.ensures ∙ take_min LOOK_AFTER rest ∙ ap (take LOOK_AFTER) c.split_at.ensures.back)
