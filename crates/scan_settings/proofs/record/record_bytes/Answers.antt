use Rattle.std.proofs.Common.{◌≡◌, ◌++◌, ◌<◌, ◌^◌, ℕ, List, length, sym, subst, ap, ◌∙◌, arith}
use Rattle.scan_settings.specs.Record.{texts_bytes, numbers_of, kept_by}
use Rattle.scan_settings.proofs.Texts.{body_short}
use Rattle.scan_settings.proofs.Back.{numbers_short}
use Rattle.scan_settings.proofs.record.record_bytes.Goals as goal

pub overflow_cast-len : goal.overflow_cast-len
overflow_cast-len c =
    let plan = c.args.plan.now in
    let kept = kept_by c.args.image c.args.page c.args.stop c.args.alert plan in
    let body : c.push_names.new.into.items ≡ numbers_of kept ++ texts_bytes plan.keywords ++ texts_bytes plan.patterns =
    c.in_ok-push_names.ensures ∙ ap (λ (texts : List (List ℕ)). c.push_texts.new.into.items ++ texts_bytes texts) c.items-2.ensures
    ∙ ap (λ (front : List ℕ). front ++ texts_bytes plan.patterns)
    (c.in_ok-push_texts.ensures ∙ ap (λ (texts : List (List ℕ)). c.in_ok-body.body.items ++ texts_bytes texts) c.items.ensures
    ∙ ap (λ (front : List ℕ). front ++ texts_bytes plan.keywords) c.in_ok-body.ensures) in
    let short = body_short (numbers_of kept) plan.keywords plan.patterns (numbers_short kept) c.requires.keywords c.requires.few_keywords c.requires.patterns c.requires.few_patterns in
    let size : length c.push_names.new.into.items < 2 ^ 32 = subst (λ (bytes : List ℕ). length bytes < 2 ^ 32) (sym body) short in
    omega (arith, c.len.ensures, size)
