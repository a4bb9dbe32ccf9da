-- What a host answers.
use Rattle.std.specs.Prelude.{Result, Ok, Err}
use Rattle.host.specs.declared.fault.HostFault.{HostFault}

-- it did what it was asked, or says why it didn't
abbrev pub Answer : Type 0
Answer = Result (Unit {0}) HostFault

-- what a log has of an answer
abbrev pub answered : {T U : Type 0} → (T → U) → Result T HostFault → Result U HostFault
answered f (Ok value) = Ok (f value)
answered f (Err fault) = Err fault
