-- How a program ends. Assumes nothing.
use Rattle.std.specs.Prelude.{Result, Ok, Err}
use Rattle.std.specs.declared.process.ExitCode.{ExitCode}

-- what a program ends with: 0 where it printed what it had to, and 1 where a read or a write failed
abbrev pub exit_of : {T E : Type 0} → Result T E → ExitCode
exit_of (Ok done) = record { status = 0 }
exit_of (Err failure) = record { status = 1 }
