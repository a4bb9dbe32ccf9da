-- What the program prints on standard error where it ends without a report, and its exit status.
use Rattle.std.specs.Prelude.{ℕ, List, [], ◌∷◌, ◌++◌, codes}
use Rattle.std.specs.Fmt.{decimal}
use Rattle.kahn_program.specs.declared.failure.Source.{Source}
use Rattle.kahn_program.specs.declared.failure.Source.TheVariants.{Net, Inputs, Script}
use Rattle.kahn_program.specs.declared.failure.Failure.{Failure}
use Rattle.kahn_program.specs.declared.failure.Failure.TheVariants.{Line, Whole, NotText, Unreadable, Approximation}
use Rattle.kahn_program.specs.declared.failure.Failure.TheVariants.{NoMemory, State, InUse, Unwritten, Other}

abbrev pub source_text : Source → List ℕ
source_text Net = codes "net"
source_text Inputs = codes "inputs"
source_text Script = codes "script"

abbrev pub failure_text : Failure → List ℕ
failure_text (Line source line number) =
    source_text source ++ codes " line " ++ decimal line ++ codes ": refusal " ++ decimal number
failure_text (Whole source number) = source_text source ++ codes ": refusal " ++ decimal number
failure_text (NotText source) = source_text source ++ codes ": not text"
failure_text (Unreadable source) = source_text source ++ codes ": cannot be read"
failure_text (Approximation number) = codes "approx: refusal " ++ decimal number
failure_text NoMemory = codes "no memory"
failure_text (State number) = codes "state: refusal " ++ decimal number
failure_text InUse = codes "state: in use"
failure_text Unwritten = codes "history: cannot be written"
failure_text (Other number) = codes "refusal " ++ decimal number

-- the line of a failure, with the line feed behind it
abbrev pub failure_line : Failure → List ℕ
failure_line failure = failure_text failure ++ 10 ∷ []

-- the status of a failure: 2 for a text that is refused, 1 for all else
abbrev pub status_of : Failure → ℕ
status_of (Line source line number) = 2
status_of (Whole source number) = 2
status_of (NotText source) = 2
status_of (Unreadable source) = 1
status_of (Approximation number) = 1
status_of NoMemory = 1
status_of (State number) = 1
status_of InUse = 1
status_of Unwritten = 1
status_of (Other number) = 1
