use Rattle.std.proofs.Common.{◌≡◌, ◌++◌, take, vec_len}
use Rattle.std.specs.Fmt.{decimal}
use Rattle.std.specs.List.{flat_map}
use Rattle.forensic_path.specs.PathText.{step_text}
use Rattle.forensic_path.proofs.write.push_path.Given as goal

abbrev pub invariant-loop-step : goal.invariant-loop-step
invariant-loop-step l = record {
  appended : l.into.items ≡ l.fn.into.items ++ decimal l.path.top ++ flat_map step_text (take l.step-index l.path.steps);
  front : take (vec_len l.fn.into) l.into.items ≡ l.fn.into.items;
}
