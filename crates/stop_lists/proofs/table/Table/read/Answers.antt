use Rattle.std.specs.Prelude.{◌≡◌, List, IfOk}
use Rattle.std.proofs.Common.{◌∙◌, subst}
use Rattle.stop_lists.specs.Lists.{Entry, entries_of}
use Rattle.stop_lists.proofs.Lines.{all_lines, last_line, lines_entries, more_lines}
use Rattle.stop_lists.proofs.table.Table.read.Goals as goal

pub loop-line-preserved : goal.loop-line-preserved
loop-line-preserved c =
    rw c.in_ok-add_line.ensures
    (more_lines c.loop-line.entries (lines_entries c.args.list.now) c.loop-line.rest.now c.in-Some.line.now c.in-Some.more.now c.loop-line.invariant
    c.in-Some.ensures.some)

pub returns : goal.returns
returns c =
    let read : c.add_line-2.new.entries ≡ entries_of c.args.list.now =
    c.in_ok-add_line-2.ensures
    ∙ (last_line c.loop-line.entries (lines_entries c.args.list.now) c.loop-line.rest.now c.loop-line.invariant c.in_default.ensures.none ∙ all_lines c.args.list.now) in
    subst (λ (entries : List Entry). IfOk c.of.result (λ table. table ≡ entries)) read c.of.ensures
