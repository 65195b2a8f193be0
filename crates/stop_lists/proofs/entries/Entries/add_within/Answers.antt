use Rattle.std.proofs.Common.{◌≡◌, length, ◌∙◌, arith}
use Rattle.feature_escape.specs.Escape.{unescape_lenient_of}
use Rattle.stop_lists.proofs.Kept.{within_placed}
use Rattle.stop_lists.proofs.entries.Entries.add_within.Goals as goal

pub returns : goal.returns
returns c =
    let text : c.as_slice-feature.result.now ≡ unescape_lenient_of c.args.text.now = c.as_slice-feature.ensures ∙ c.in_ok-feature.ensures in
    let around : c.as_slice-context.result.now ≡ unescape_lenient_of c.args.around.now = c.as_slice-context.ensures ∙ c.in_ok-context.ensures in
    let start : c.len-start.result ≡ length c.self.inside.bytes.items = omega (arith, c.len-start.ensures, c.self.inside.bytes.ok.0) in
    rw (c.in_ok-push.ensures.items, c.in_ok-extend_from_slice-2.ensures.items, c.in_ok-extend_from_slice.ensures.items)
    (within_placed c.self.inside.bytes.items (unescape_lenient_of c.args.text.now) c.as_slice-feature.result.now (unescape_lenient_of c.args.around.now)
    c.as_slice-context.result.now c.self.inside.places.items c.args.self.now c.len-start.result c.self.invariant c.self.view_is start text around)
