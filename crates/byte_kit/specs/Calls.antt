-- The calls of an object that fails on demand, numbered from 0 on, and those that are told to fail.
use Rattle.std.specs.Prelude.{ℕ, Bool, List, [], ◌==◌, ◌++◌, if◌then◌else◌}
use Rattle.std.specs.List.{list_any}
use Rattle.byte_kit.specs.Counts.{counted}

-- the number of the next call, the numbers that are to fail, and how often a call failed
pub record CallPlan : Type 0 where
  pub made : ℕ
  pub failing : List ℕ
  pub faults : ℕ

-- no call so far, and none that is to fail
abbrev pub no_calls : CallPlan
no_calls = record { made = 0; failing = []; faults = 0 }

-- the next call is one of those that are to fail
abbrev pub is_due : CallPlan → Bool
is_due plan = list_any (λ call. call == plan.made) plan.failing

-- after a call
abbrev pub after_call : CallPlan → CallPlan
after_call plan = record plan { made = counted plan.made }

-- after a fault
abbrev pub after_fault : CallPlan → CallPlan
after_fault plan = record plan { faults = counted plan.faults }

-- after a call that fails where it was told to
abbrev pub after_begin : CallPlan → CallPlan
after_begin plan = if is_due plan then after_fault (after_call plan) else after_call plan

-- with further calls that are to fail
abbrev pub with_failing : CallPlan → List ℕ → CallPlan
with_failing plan calls = record plan { failing = plan.failing ++ calls }
