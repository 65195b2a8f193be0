-- What a refusal says of the words, where it is made of a bad word.
use Rattle.std.proofs.Common.{◌≡◌, Option, Some, Result, Ok, Err, IfErr, sym, subst}
use Rattle.std.specs.Result.{IsErrAnd}
use Rattle.scan_settings.specs.declared.fault.BadWord.{BadWord}
use Rattle.scan_settings.specs.declared.fault.WordsFault.{WordsFault}
use Rattle.scan_settings.specs.Faults.{refusal_of, IsFault}

pub fault_from : {T : Type 0} (result : Result T WordsFault) (fault : Option BadWord) (b : BadWord) → IsErrAnd result (λ e. e ≡ refusal_of b) →
    fault ≡ Some b → IfErr result (IsFault fault)
fault_from (Ok value) fault b made is = absurd made
fault_from (Err e) fault b made is = subst (IsFault fault) (sym made) is
