-- What a sink in memory means as a sink, and which of its puts are to fail.
use Rattle.std.specs.Prelude.{◌≡◌, ◌↔◌, ℕ, List, IsErrOf, Option, Some, Result}
use Rattle.byte_kit.specs.Calls.{CallPlan, after_begin}
use Rattle.host_source.specs.declared.mem_sink.MemSink.{MemSink}
use Rattle.host_source.specs.declared.sink.SinkFault.{SinkFault}
use Rattle.host_source.specs.declared.sink.SinkFault.TheVariants.{Failed}
use Rattle.host_source.specs.Calls.{IsDue}

-- it tells what was put
abbrev pub mem_taken : MemSink → Option (List ℕ)
mem_taken sink = Some sink.bytes.items

-- the puts so far, those that are to fail, and the faults
abbrev pub mem_puts : MemSink → CallPlan
mem_puts sink = sink.puts

-- how many of the puts failed
abbrev pub mem_put_faults : MemSink → ℕ
mem_put_faults sink = (mem_puts sink).faults

-- a put is counted, with its fault where it is due, and answers `Failed` exactly there
pub record IsPut {T : Type 0} (old new : MemSink) (result : Result T SinkFault) : Type 0 where
  pub puts : mem_puts new ≡ after_begin (mem_puts old)
  pub failed : IsErrOf result Failed ↔ IsDue (mem_puts old)
