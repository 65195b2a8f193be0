use Rattle.std.proofs.Common.{rules, ◌≡◌, ◌∙◌, ℕ, List, ◌++◌, length, ap}
use Rattle.std.specs.Vec.{vec_len}
use Rattle.image_gen.specs.Blocks.{text_of, kind_of}
use Rattle.image_gen.specs.declared.block.TheConstants.{BLOCK_SIZE}
use Rattle.image_gen.specs.declared.kind.Kind.{Kind}
use Rattle.image_gen.proofs.Filled.{filled_behind}
use Rattle.image_gen.proofs.block.push_block.Goals as goal

pub returns : goal.returns
returns c =
    let old : List ℕ = c.args.image.now.items in
    let now : List ℕ = c.push_text.new.into.items in
    let text : List ℕ = text_of (kind_of c.args.number) c.args.word in
    let front : c.len-front.result ≡ length old = search rules in
    let grown : vec_len c.push_text.new.into ≡ length now = search rules in
    let pushed : now ≡ old ++ text =
    c.in_ok-push_text.ensures ∙ ap (λ (kind : Kind). old ++ text_of kind c.args.word) c.of.ensures in
    c.in_ok-resize.ensures.items
    ∙ filled_behind old text now BLOCK_SIZE c.len-front.result (vec_len c.push_text.new.into) front grown pushed
