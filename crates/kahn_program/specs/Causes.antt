-- Why the program over its host ends without a report.
use Rattle.std.specs.Prelude.{◌≡◌, ◌⊎◌, ℕ, ℤ, Bool, true, List, Option, Some, None, Ok, Err}
use Rattle.cobaltmidge.specs.Accepting.{IsAccepted}
use Rattle.cobaltmidge.specs.Texts.{AreInputsOf, IsNetOf}
use Rattle.host.specs.Answers.{Answer}
use Rattle.host.specs.LineRequests as lines
use Rattle.host.specs.LineRequests.{has_failed}
use Rattle.host.specs.Requests.{Request, Has, Opened, Read, Said, Told, Used}
use Rattle.host.specs.declared.fault.HostFault.{HostFault}
use Rattle.kahn_program.specs.Failures.{failure_line, status_of}
use Rattle.kahn_program.specs.Program.{HasReport, asked_files}
use Rattle.kahn_program.specs.Runnable.{IsApproximationFailure, IsStoreFailure}
use Rattle.kahn_program.specs.declared.kept_files.TheConstants.{ASTRAY, FILE_FAILED, ITEM_DIFFERS, OTHER_STATE}
use Rattle.kahn_program.specs.Readings.{IsInputsFailure, IsNetFailure, IsScriptFailure}
use Rattle.kahn_program.specs.declared.asked.Options.{Options}
use Rattle.kahn_program.specs.declared.failure.Failure.{Failure}
use Rattle.kahn_program.specs.declared.failure.Failure.TheVariants.{Line, Whole, NotText, Unreadable, Approximation}
use Rattle.kahn_program.specs.declared.failure.Failure.TheVariants.{NoMemory, State, InUse, Unwritten, Other}
use Rattle.kahn_program.specs.declared.failure.Source.{Source}
use Rattle.kahn_program.specs.declared.failure.Source.TheVariants as source
use Rattle.protocol.specs.Node.Common.{Net, network_of, node_count}
use Rattle.run_files.specs.Causes.{IsCaused}
use Rattle.run_files.specs.Wanted.{Wanted}
use Rattle.run_files.specs.declared.fault.FilesFault.{FilesFault}
use Rattle.run_files.specs.declared.fault.FilesFault.TheVariants as files

-- what a refusal of a run's files comes to
abbrev pub failure_of : FilesFault → Failure
failure_of files.NoMemory = NoMemory
failure_of files.InUse = InUse
failure_of files.OtherState = State OTHER_STATE
failure_of files.Failed = State FILE_FAILED
failure_of files.Unwritten = Unwritten
failure_of files.Astray = State ASTRAY

-- Why a run of accepted texts ends without a report: memory is missing; its files were refused, for what stands in the log; what its outlets
-- keep failed, as `failed` says by the number of the refusal; or the run itself did.
abbrev pub IsStopped : (ℕ → Type 0) → Wanted → List Request → Failure → Type 0
IsStopped failed o e (Line source line number) = ⊥
IsStopped failed o e (Whole source number) = ⊥
IsStopped failed o e (NotText source) = ⊥
IsStopped failed o e (Unreadable source) = ⊥
IsStopped failed o e (Approximation number) = ⊥
IsStopped failed o e NoMemory = Unit {0}
IsStopped failed o e (State number) =
    failed number
    ⊎ (((number ≡ OTHER_STATE) × IsCaused IsAccepted o e files.OtherState)
    ⊎ (((number ≡ FILE_FAILED) × IsCaused IsAccepted o e files.Failed) ⊎ (number ≡ ASTRAY)))
IsStopped failed o e InUse = IsCaused IsAccepted o e files.InUse
IsStopped failed o e Unwritten = IsCaused IsAccepted o e files.Unwritten
IsStopped failed o e (Other number) = (counted : Bool) × IsStoreFailure counted (Other number)

-- A file of the folder failed: an item of the run differs from one that it held (81), or a put to it did (82). Or the files came back
-- otherwise than they were opened, which is a fault of the program (83).
abbrev pub HasFileFault : Wanted → List Request → ℕ → Type 0
HasFileFault o e number =
    ((number ≡ ITEM_DIFFERS) × ((folder name bytes : List ℕ) × Has (Opened folder name o.sync (Ok bytes)) e))
    ⊎ (((number ≡ FILE_FAILED)
    × ((name : List ℕ) × (asked : List lines.Request) × Has (Used name asked) e × (has_failed asked ≡ true)))
    ⊎ (number ≡ ASTRAY))

-- a text's file wasn't read, as the host said, or memory is missing
abbrev pub IsUnread : Source → List ℕ → List Request → Failure → Type 0
IsUnread source path e failure =
    (failure ≡ NoMemory) ⊎ ((failure ≡ Unreadable source) × ((fault : HostFault) × Has (Read path (Err fault)) e))

-- the script that is asked for wasn't read, or what was read is refused
abbrev pub IsScriptStop : Option (List ℕ) → ℕ → List Request → Failure → Type 0
IsScriptStop None nodes e failure = ⊥
IsScriptStop (Some path) nodes e failure =
    IsUnread source.Script path e failure
    ⊎ ((bytes : List ℕ) × Has (Read path (Ok bytes)) e × IsScriptFailure nodes bytes failure)

-- A file of a text wasn't read; or the text that was read of it is refused: that of the network, that of the inputs for this network, or
-- that of the script for its nodes. Or a history of the approximation is too long, or the run ended otherwise.
pub data HasCause : Wanted → List Request → Failure → Type 0 where
  net_unread : {o : Wanted} {e : List Request} {failure : Failure} → IsUnread source.Net o.net e failure → HasCause o e failure
  net_refused : {o : Wanted} {e : List Request} {failure : Failure} (bytes : List ℕ) → Has (Read o.net (Ok bytes)) e
      → IsNetFailure bytes failure → HasCause o e failure
  inputs_unread : {o : Wanted} {e : List Request} {failure : Failure} → IsUnread source.Inputs o.inputs e failure → HasCause o e failure
  inputs_refused : {o : Wanted} {e : List Request} {failure : Failure} (net_bytes bytes : List ℕ) (net : Net)
      → Has (Read o.net (Ok net_bytes)) e → IsNetOf net_bytes net → Has (Read o.inputs (Ok bytes)) e
      → IsInputsFailure net bytes failure → HasCause o e failure
  script_stops : {o : Wanted} {e : List Request} {failure : Failure} (net_bytes : List ℕ) (net : Net)
      → Has (Read o.net (Ok net_bytes)) e → IsNetOf net_bytes net
      → IsScriptStop o.script (node_count (network_of net.program)) e failure → HasCause o e failure
  too_long : {o : Wanted} {e : List Request} {failure : Failure} (net_bytes bytes : List ℕ) (net : Net) (inputs : List (List ℤ)) (n : ℕ)
      → Has (Read o.net (Ok net_bytes)) e → IsNetOf net_bytes net → Has (Read o.inputs (Ok bytes)) e → AreInputsOf bytes net inputs
      → IsApproximationFailure (network_of net.program) inputs n failure → HasCause o e failure
  stopped : {o : Wanted} {e : List Request} {failure : Failure} → IsStopped (HasFileFault o e) o e failure → HasCause o e failure

-- the line of a failure was told, of one that isn't a text's, or where the line couldn't be written
abbrev pub IsToldOf : Failure → List Request → Type 0
IsToldOf failure e =
    (answer : Answer) × Has (Told (failure_line failure) answer) e
    × ((status_of failure ≡ 1) ⊎ ((fault : HostFault) × (answer ≡ Err fault)))

-- Why the status is 1: there wasn't even memory for the line of that; the line of a failure was told that has its cause in the log; or the
-- report couldn't be written.
pub data HasFailed (options : Options) (old new : List Request) : Type 0 where
  nothing : new ≡ old → HasFailed options old new
  told : (failure : Failure) → HasCause (asked_files options) new failure → IsToldOf failure new → HasFailed options old new
  unsaid : (text : List ℕ) (complete : Bool) (fault : HostFault) → HasReport options text complete new → Has (Said text (Err fault)) new
      → HasFailed options old new

-- The line of a fault was told that a text has which was read: that of its network, of its inputs or of its script.
pub record IsRefused (options : Options) (e : List Request) : Type 0 where
  pub failure : Failure
  pub of_text : status_of failure ≡ 2
  pub cause : HasCause (asked_files options) e failure
  pub told : Has (Told (failure_line failure) (Ok tt)) e
