-- A call of which more counts are known to have risen: what bore an answer bears it still.
use Rattle.std.proofs.Common.{ℕ, List}
use Rattle.triage_run.specs.declared.status.Status.{Status}
use Rattle.triage_run.specs.declared.status.Status.TheVariants.{Done, Usage, ListTooLong, ReadFault, PatternRefused, TooManyPages, DiskFault, OutFault, NoMemory, NotYet}
use Rattle.triage_run.specs.declared.status.ReadPlace.TheVariants.{StopList, AlertList, Image, Page}
use Rattle.triage_run.specs.Call.{Call, IsCause, IsExact}

module _ {R : Type 0} (call : Call R) (source sink : Type 0) (takes : List ℕ → Type 0) where
  abbrev pub grown : Call R
  grown = record call { source_rose = source; sink_rose = sink; takes = takes }

  pub cause_grown : (call.source_rose → source) → (call.sink_rose → sink) → (status : Status) → IsCause call status → IsCause grown status
  cause_grown more put Done cause = cause
  cause_grown more put NoMemory cause = tt
  cause_grown more put (Usage word why) cause = cause
  cause_grown more put (ListTooLong list size) cause = cause
  cause_grown more put (ReadFault StopList) cause = cause
  cause_grown more put (ReadFault AlertList) cause = cause
  cause_grown more put (ReadFault Image) cause = more cause
  cause_grown more put (ReadFault (Page page)) cause = (more cause.0, cause.1)
  cause_grown more put (PatternRefused index) cause = cause
  cause_grown more put DiskFault cause = cause
  cause_grown more put OutFault cause = (put cause.0, cause.1, cause.2)
  cause_grown more put (TooManyPages pages) cause = cause
  cause_grown more put (NotYet what) cause = cause

  pub exact_grown : (status : Status) → IsExact call status → IsExact grown status
  exact_grown status exact = record { usage = exact.usage; form = exact.form; list = exact.list; pages = exact.pages }
