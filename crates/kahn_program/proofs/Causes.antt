-- Why the program over its host ends without a report, in a log that goes on.
use Rattle.std.proofs.Common.{true, ◌≡◌, ◌⊎◌, inl, inr, sym, subst, refl, ℕ, ℤ, Bool, List, Option, Some, None, Ok, Err, Result}
use Rattle.std.specs.Prelude.{IfErr, OnOk}
use Rattle.host.specs.Answers.{Answer}
use Rattle.host.specs.declared.fault.HostFault.{HostFault}
use Rattle.kahn_program.specs.Failures.{failure_line}
use Rattle.cobaltmidge.specs.Accepting.{IsAccepted}
use Rattle.cobaltmidge.specs.Texts.{AreInputsOf, IsNetOf}
use Rattle.run_files.specs.Causes.{IsCaused}
use Rattle.run_files.specs.declared.fault.FilesFault.{FilesFault}
use Rattle.run_files.specs.declared.fault.FilesFault.TheVariants as files
use Rattle.run_files.proofs.Caused.{caused_later}
use Rattle.host.specs.Requests.{Request, Has, Later, Read, Told}
use Rattle.protocol.specs.Node.Common.{Net, network_of, node_count}
use Rattle.run_files.specs.Wanted.{Wanted}
use Rattle.kahn_program.specs.Causes.{HasCause, HasFileFault, IsScriptStop, IsStopped, IsUnread, failure_of}
use Rattle.kahn_program.specs.Causes.{HasFailed, IsToldOf, nothing, told}
use Rattle.kahn_program.specs.Program.{asked_files}
use Rattle.cobaltmidge.specs.declared.fault.RunFault.{RunFault}
use Rattle.cobaltmidge.specs.declared.fault.RunFault.TheVariants as run_fault
use Rattle.kahn_program.specs.Causes.{inputs_refused, inputs_unread, net_refused, net_unread, script_stops, stopped, too_long}
use Rattle.kahn_program.specs.Readings.{IsInputsFailure, IsNetFailure}
use Rattle.kahn_program.specs.Keeping.{IsKeptFailure}
use Rattle.kahn_program.specs.Runnable.{IsApproximationFailure, IsReportless, run_failure}
use Rattle.kahn_program.specs.declared.asked.Options.{Options}
use Rattle.kahn_program.specs.declared.failure.Failure.{Failure}
use Rattle.kahn_program.specs.declared.failure.Failure.TheVariants.{Line, Whole, NotText, Unreadable, Approximation}
use Rattle.kahn_program.specs.declared.failure.Failure.TheVariants.{NoMemory, State, InUse, Unwritten, Other}
use Rattle.kahn_program.specs.declared.failure.Source.{Source}
use Rattle.kahn_program.specs.declared.failure.Source.TheVariants as source

unread_later : (source : Source) (path : List ℕ) (a b : List Request) (failure : Failure) → Later a b → IsUnread source path a failure
    → IsUnread source path b failure
unread_later source path a b failure later (inl none) = inl none
unread_later source path a b failure later (inr was) = inr (was.0, (was.1.0, later _ was.1.1))

stop_later : (path : Option (List ℕ)) (nodes : ℕ) (a b : List Request) (failure : Failure) → Later a b → IsScriptStop path nodes a failure
    → IsScriptStop path nodes b failure
stop_later None nodes a b failure later h = h
stop_later (Some path) nodes a b failure later (inl h) = inl (unread_later source.Script path a b failure later h)
stop_later (Some path) nodes a b failure later (inr h) = inr (h.0, later _ h.1, h.2)

-- what stopped a run stands in what the log has become
pub stopped_later : (failed other : ℕ → Type 0) (o : Wanted) (a b : List Request) (failure : Failure) → Later a b
    → ((number : ℕ) → failed number → other number) → IsStopped failed o a failure → IsStopped other o b failure
stopped_later failed other o a b (Line source line number) later more h = absurd h
stopped_later failed other o a b (Whole source number) later more h = absurd h
stopped_later failed other o a b (NotText source) later more h = absurd h
stopped_later failed other o a b (Unreadable source) later more h = absurd h
stopped_later failed other o a b (Approximation number) later more h = absurd h
stopped_later failed other o a b NoMemory later more h = tt
stopped_later failed other o a b (State number) later more (inl h) = inl (more number h)
stopped_later failed other o a b (State number) later more (inr (inl h)) = inr (inl (h.0, caused_later IsAccepted o a b later files.OtherState h.1))
stopped_later failed other o a b (State number) later more (inr (inr (inl h))) =
    inr (inr (inl (h.0, caused_later IsAccepted o a b later files.Failed h.1)))
stopped_later failed other o a b (State number) later more (inr (inr (inr h))) = inr (inr (inr h))
stopped_later failed other o a b InUse later more h = caused_later IsAccepted o a b later files.InUse h
stopped_later failed other o a b Unwritten later more h = caused_later IsAccepted o a b later files.Unwritten h
stopped_later failed other o a b (Other number) later more h = h

pub file_fault_later : (o : Wanted) (a b : List Request) → Later a b → (number : ℕ) → HasFileFault o a number → HasFileFault o b number
file_fault_later o a b later number (inl h) = inl (h.0, (h.1.0, h.1.1, h.1.2, later _ h.1.3))
file_fault_later o a b later number (inr (inl h)) = inr (inl (h.0, (h.1.0, h.1.1, later _ h.1.2, h.1.3)))
file_fault_later o a b later number (inr (inr h)) = inr (inr h)

-- a refusal of the files
files_stop : (failed : ℕ → Type 0) (o : Wanted) (e : List Request) (fault : FilesFault) → IsCaused IsAccepted o e fault
    → IsStopped failed o e (failure_of fault)
files_stop failed o e files.NoMemory h = tt
files_stop failed o e files.InUse h = h
files_stop failed o e files.OtherState h = inr (inl (refl, h))
files_stop failed o e files.Failed h = inr (inr (inl (refl, h)))
files_stop failed o e files.Unwritten h = h
files_stop failed o e files.Astray h = inr (inr (inr refl))

pub stopped_by_files : (failed : ℕ → Type 0) (o : Wanted) (e : List Request) (failure : Failure) (fault : FilesFault)
    → failure ≡ failure_of fault → IsCaused IsAccepted o e fault → IsStopped failed o e failure
stopped_by_files failed o e failure fault is h = subst (IsStopped failed o e) (sym is) (files_stop failed o e fault h)

-- a failure of the run itself
pub run_stops : (keeps : Bool) (failed : ℕ → Type 0) (o : Wanted) (e : List Request) (failure : Failure)
    → IsReportless keeps failure → IsKeptFailure failed failure → IsStopped failed o e failure
run_stops keeps failed o e (Line source line number) (inl h) kept = absurd h
run_stops keeps failed o e (Line source line number) (inr h) kept = absurd h
run_stops keeps failed o e (Whole source number) (inl h) kept = absurd h
run_stops keeps failed o e (Whole source number) (inr h) kept = absurd h
run_stops keeps failed o e (NotText source) (inl h) kept = absurd h
run_stops keeps failed o e (NotText source) (inr h) kept = absurd h
run_stops keeps failed o e (Unreadable source) (inl h) kept = absurd h
run_stops keeps failed o e (Unreadable source) (inr h) kept = absurd h
run_stops keeps failed o e (Approximation number) (inl h) kept = absurd h
run_stops keeps failed o e (Approximation number) (inr h) kept = absurd h
run_stops keeps failed o e NoMemory h kept = tt
run_stops keeps failed o e (State number) h kept = inl kept
run_stops keeps failed o e InUse (inl h) kept = absurd h
run_stops keeps failed o e InUse (inr h) kept = absurd h
run_stops keeps failed o e Unwritten (inl h) kept = absurd h
run_stops keeps failed o e Unwritten (inr h) kept = absurd h
run_stops keeps failed o e (Other number) (inl h) kept = (true, h)
run_stops keeps failed o e (Other number) (inr h) kept = absurd h

still_caused : (o : Wanted) (a b : List Request) (failure : Failure) → Later a b → HasCause o a failure → HasCause o b failure
still_caused o a b failure later (net_unread h) = net_unread (unread_later source.Net o.net a b failure later h)
still_caused o a b failure later (net_refused bytes read h) = net_refused bytes (later _ read) h
still_caused o a b failure later (inputs_unread h) = inputs_unread (unread_later source.Inputs o.inputs a b failure later h)
still_caused o a b failure later (inputs_refused net_bytes bytes net read of_net inputs h) =
    inputs_refused net_bytes bytes net (later _ read) of_net (later _ inputs) h
still_caused o a b failure later (script_stops net_bytes net read of_net h) =
    script_stops net_bytes net (later _ read) of_net (stop_later o.script (node_count (network_of net.program)) a b failure later h)
still_caused o a b failure later (too_long net_bytes bytes net inputs n read of_net inputs_read of_inputs h) =
    too_long net_bytes bytes net inputs n (later _ read) of_net (later _ inputs_read) of_inputs h
still_caused o a b failure later (stopped h) =
    stopped (stopped_later (HasFileFault o a) (HasFileFault o b) o a b failure later (file_fault_later o a b later) h)

-- the cause stands in what the log has become
pub cause_later : (o p : Wanted) (a b : List Request) (failure : Failure) → o ≡ p → Later a b → HasCause o a failure → HasCause p b failure
cause_later o p a b failure same later h =
    let P : Wanted → Type 0 = λ w. HasCause w b failure in subst P same (still_caused o a b failure later h)

pub by_unread_net : (o : Wanted) (e : List Request) (failure : Failure) → IsUnread source.Net o.net e failure → HasCause o e failure
by_unread_net o e failure h = net_unread h

pub by_net : (o : Wanted) (e : List Request) (bytes : List ℕ) (failure : Failure) → Has (Read o.net (Ok bytes)) e
    → IsNetFailure bytes failure → HasCause o e failure
by_net o e bytes failure read h = net_refused bytes read h

pub by_unread_inputs : (o : Wanted) (e : List Request) (failure : Failure) → IsUnread source.Inputs o.inputs e failure → HasCause o e failure
by_unread_inputs o e failure h = inputs_unread h

pub by_inputs : (o : Wanted) (a e : List Request) (net_bytes bytes : List ℕ) (net : Net) (failure : Failure) → Later a e
    → Has (Read o.net (Ok net_bytes)) a → IsNetOf net_bytes net → Has (Read o.inputs (Ok bytes)) e → IsInputsFailure net bytes failure
    → HasCause o e failure
by_inputs o a e net_bytes bytes net failure later read of_net inputs h = inputs_refused net_bytes bytes net (later _ read) of_net inputs h

pub by_script : (o : Wanted) (a b e : List Request) (net_bytes : List ℕ) (net : Net) (nodes : ℕ) (failure : Failure) → Later a b
    → Later b e → Has (Read o.net (Ok net_bytes)) a → IsNetOf net_bytes net → nodes ≡ node_count (network_of net.program)
    → IsScriptStop o.script nodes e failure → HasCause o e failure
by_script o a b e net_bytes net nodes failure first second read of_net same h =
    let P : ℕ → Type 0 = λ n. IsScriptStop o.script n e failure in
    script_stops net_bytes net (second _ (first _ read)) of_net (subst P same h)

pub by_stop : (o : Wanted) (e : List Request) (failure : Failure) → IsStopped (HasFileFault o e) o e failure → HasCause o e failure
by_stop o e failure h = stopped h

pub by_approximation : (o : Wanted) (e : List Request) (net_bytes bytes : List ℕ) (net : Net) (inputs : List (List ℤ)) (n : ℕ)
    (failure other : Failure) → Has (Read o.net (Ok net_bytes)) e → IsNetOf net_bytes net → Has (Read o.inputs (Ok bytes)) e
    → AreInputsOf bytes net inputs → IsApproximationFailure (network_of net.program) inputs n failure → other ≡ failure
    → HasCause o e other
by_approximation o e net_bytes bytes net inputs n failure other read of_net inputs_read of_inputs h same =
    subst (HasCause o e) (sym same) (too_long net_bytes bytes net inputs n read of_net inputs_read of_inputs h)

pub if_err : {T E : Type 0} (P Q : E → Type 0) (result : Result T E) → ((x : E) → P x → Q x) → IfErr result P → IfErr result Q
if_err P Q (Ok x) more h = tt
if_err P Q (Err e) more h = more e h

-- want of memory stops a run
pub stopped_none : (failed : ℕ → Type 0) (o : Wanted) (e : List Request) (failure : Failure) → failure ≡ NoMemory
    → IsStopped failed o e failure
stopped_none failed o e failure is = subst (IsStopped failed o e) (sym is) tt

-- what failed by one account failed by another
pub kept_maps : (failed other : ℕ → Type 0) (failure : Failure) → ((number : ℕ) → failed number → other number)
    → IsKeptFailure failed failure → IsKeptFailure other failure
kept_maps failed other (Line source line number) more h = tt
kept_maps failed other (Whole source number) more h = tt
kept_maps failed other (NotText source) more h = tt
kept_maps failed other (Unreadable source) more h = tt
kept_maps failed other (Approximation number) more h = tt
kept_maps failed other NoMemory more h = tt
kept_maps failed other (State number) more h = more number h
kept_maps failed other InUse more h = tt
kept_maps failed other Unwritten more h = tt
kept_maps failed other (Other number) more h = tt

-- a failure of the run is none of what is kept
pub run_keeps : (failed : ℕ → Type 0) (fault : RunFault) (failure : Failure) → failure ≡ run_failure fault → IsKeptFailure failed failure
run_keeps failed run_fault.NoMemory failure is = subst (IsKeptFailure failed) (sym is) tt
run_keeps failed run_fault.Device failure is = subst (IsKeptFailure failed) (sym is) tt
run_keeps failed run_fault.PastNumber failure is = subst (IsKeptFailure failed) (sym is) tt

-- the line of a failure was told, or that of want of memory
pub failed_by : (options : Options) (o : Wanted) (a b old : List Request) (failure : Failure) → o ≡ asked_files options → Later a b
    → HasCause o a failure → IsToldOf failure b ⊎ IsToldOf NoMemory b → HasFailed options old b
failed_by options o a b old failure same later cause (inl is) =
    told failure (cause_later o (asked_files options) a b failure same later cause) is
failed_by options o a b old failure same later cause (inr is) = told NoMemory (stopped tt) is

pub failed_at_least : (options : Options) (old new : List Request) → (new ≡ old) ⊎ IsToldOf NoMemory new → HasFailed options old new
failed_at_least options old new (inl same) = nothing same
failed_at_least options old new (inr is) = told NoMemory (stopped tt) is

-- a line that couldn't be written
pub told_in_vain : (failure : Failure) (bytes : List ℕ) (fault : HostFault) (e : List Request) → bytes ≡ failure_line failure
    → Has (Told bytes (Err fault)) e → IsToldOf failure e
told_in_vain failure bytes fault e line has =
    (Err fault, subst (λ (b : List ℕ). Has (Told b (Err fault)) e) line has, inr (fault, refl))

-- the line of want of memory, written or not
pub told_none : (result : Answer) (bytes : List ℕ) (e : List Request) → bytes ≡ failure_line NoMemory
    → OnOk result (Has (Told bytes (Ok tt)) e) → IfErr result (λ fault. Has (Told bytes (Err fault)) e) → IsToldOf NoMemory e
told_none (Ok done) bytes e line has other = (Ok tt, subst (λ (b : List ℕ). Has (Told b (Ok tt)) e) line has, inl refl)
told_none (Err fault) bytes e line other has = told_in_vain NoMemory bytes fault e line has
