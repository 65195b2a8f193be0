-- Each part of a line is refused where it is that of no line, since a line has one first TAB and one second.
use Rattle.feature_file.proofs.Tabs.{no_first, no_second, parts_of, parts_same, whole_of}
use Rattle.feature_file.proofs.read.read_line.Goals as goal

pub returns-in_default-clause-none : goal.returns-in_default-clause-none
returns-in_default-clause-none c = no_first c.args.line.now c.in_default.ensures.none

pub returns-in_default-clause-back : goal.returns-in_default-clause-back
returns-in_default-clause-back c = λ path feature context line. returns-in_default-clause-none c path feature context line

pub returns-in_default-cut_at_tab-clause-none : goal.returns-in_default-cut_at_tab-clause-none
returns-in_default-cut_at_tab-clause-none c = no_second c.in-Some.ensures.some c.in_default-cut_at_tab.ensures.none

pub returns-in_default-cut_at_tab-clause-back : goal.returns-in_default-cut_at_tab-clause-back
returns-in_default-cut_at_tab-clause-back c = λ path feature context line. returns-in_default-cut_at_tab-clause-none c path feature context line

pub returns-in_default-2-clause-none : goal.returns-in_default-2-clause-none
returns-in_default-2-clause-none c = λ path feature context line.
    let parts = parts_of path feature context c.in-Some.ensures.some c.in-Some-cut_at_tab.ensures.some line in
    let none = rw c.in_default-2.is at c.in_ok-path.ensures.none in
    none path (record { lawful = line.lawful; is = parts.place_is }) line.few

pub returns-in_default-2-clause-back : goal.returns-in_default-2-clause-back
returns-in_default-2-clause-back c = λ path feature context line. returns-in_default-2-clause-none c path feature context line

pub returns-in_default-3-clause-none : goal.returns-in_default-3-clause-none
returns-in_default-3-clause-none c = λ path feature context line.
    let parts = parts_of path feature context c.in-Some.ensures.some c.in-Some-cut_at_tab.ensures.some line in
    let none = rw c.in_default-3.is at c.in_ok-feature.ensures.none in
    none feature line.feature_bytes parts.text_is

pub returns-in_default-3-clause-back : goal.returns-in_default-3-clause-back
returns-in_default-3-clause-back c = λ path feature context line. returns-in_default-3-clause-none c path feature context line

pub returns-in_default-4-clause-none : goal.returns-in_default-4-clause-none
returns-in_default-4-clause-none c = λ path feature context line.
    let parts = parts_of path feature context c.in-Some.ensures.some c.in-Some-cut_at_tab.ensures.some line in
    let none = rw c.in_default-4.is at c.in_ok-context.ensures.none in
    none context line.context_bytes parts.around_is

pub returns-in_default-4-clause-back : goal.returns-in_default-4-clause-back
returns-in_default-4-clause-back c = λ path feature context line. returns-in_default-4-clause-none c path feature context line

pub returns-clause-some : goal.returns-clause-some
returns-clause-some c =
    let path = rw c.in-Some-2.is at c.in_ok-path.ensures.text in
    let few = rw c.in-Some-2.is at c.in_ok-path.ensures.few in
    let feature = rw c.in-Some-3.is at c.in_ok-feature.ensures.some in
    let context = rw c.in-Some-4.is at c.in_ok-context.ensures.some in
    record {
      lawful = path.lawful;
      few = few;
      feature_bytes = feature.0;
      context_bytes = context.0;
      is = whole_of c.in-Some-2.path c.in-Some-3.feature c.in-Some-4.context c.in-Some.ensures.some c.in-Some-cut_at_tab.ensures.some
          (record { place_is = path.is; text_is = feature.1; around_is = context.1 });
    }

pub returns-clause-back : goal.returns-clause-back
returns-clause-back c = λ path feature context line.
    let parts = parts_of path feature context c.in-Some.ensures.some c.in-Some-cut_at_tab.ensures.some line in
    let path_read = rw c.in-Some-2.is at c.in_ok-path.ensures.text in
    let feature_read = rw c.in-Some-3.is at c.in_ok-feature.ensures.some in
    let context_read = rw c.in-Some-4.is at c.in_ok-context.ensures.some in
    parts_same c.in-Some-2.path path c.in-Some-3.feature feature c.in-Some-4.context context path_read.lawful line.lawful
    feature_read.0 line.feature_bytes context_read.0 line.context_bytes
    (record { place_is = path_read.is; text_is = feature_read.1; around_is = context_read.1 }) parts
