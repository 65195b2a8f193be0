use Rattle.std.proofs.Common.{◌∙◌, ℕ, ap, take, rules}
use Rattle.std.specs.List.{prefix_len}
use Rattle.scan_url.proofs.Runs.{no_run, some_run}
use Rattle.byte_kit.specs.Classes.{url_class}
use Rattle.scan_url.specs.Url.{url_of}
use Rattle.scan_url.proofs.url.url_len.Goals as goal

pub returns-in-0-clause-shape : goal.returns-in-0-clause-shape
unfolding url_of
returns-in-0-clause-shape c =
    let rest = c.split_at.result.1.now in
    let taken = c.url_run.ensures.run ∙ ap (prefix_len url_class) (c.split_at-2.ensures.front ∙ ap (λ (k : ℕ). take k rest) c.min.ensures) in
    rw (← c.in-Some.ensures.scheme, ← c.split_at.ensures.back)
    (no_run url_class c.in-Some.scheme rest c.url_run.result c.in-Some.ensures.short taken c.in-0.is)

pub returns-in_default-url_run-clause-shape : goal.returns-in_default-url_run-clause-shape
unfolding url_of
returns-in_default-url_run-clause-shape c =
    let rest = c.split_at.result.1.now in
    let taken = c.url_run.ensures.run ∙ ap (prefix_len url_class) (c.split_at-2.ensures.front ∙ ap (λ (k : ℕ). take k rest) c.min.ensures) in
    rw (← c.in-Some.ensures.scheme, ← c.split_at.ensures.back)
    (some_run url_class c.in-Some.scheme rest c.url_run.result c.in-Some.ensures.short taken (search rules))
