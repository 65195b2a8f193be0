-- What a call of a source in memory does to its counts.
use Rattle.std.specs.Prelude.{◌≡◌, IsTrue, Result, OnOk, OnErr}
use Rattle.byte_kit.specs.Calls.{CallPlan, is_due, after_call, after_fault}

-- the next call is one of those that are to fail
abbrev pub IsDue : CallPlan → Type 0
IsDue calls = IsTrue (is_due calls)

-- a call is counted, and its fault where it fails
pub record IsCall {T E : Type 0} (old new : CallPlan) (result : Result T E) : Type 0 where
  pub works : OnOk result (new ≡ after_call old)
  pub fails : OnErr result (new ≡ after_fault (after_call old))
