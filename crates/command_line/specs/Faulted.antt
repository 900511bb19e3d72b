-- A fault of a lower layer as one of the files that commands read.
use Rattle.std.specs.Prelude.{Result, Ok, Err}
use Rattle.command_line.specs.declared.status.InputFault.{InputFault}

-- the value, or its fault as an input's
abbrev pub faulted : {X F : Type 0} → (F → InputFault) → Result X F → Result X InputFault
faulted fault (Ok x) = Ok x
faulted fault (Err f) = Err (fault f)
