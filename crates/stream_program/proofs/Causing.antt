-- Why the streams ended early is why still, behind what is asked that says nothing and by which nothing comes.
use Rattle.std.proofs.Common.{◌≡◌, ◌<◌, ◌≤◌, ◌∙◌, inl, inr, ℕ, zero, suc, List, [], ◌∷◌, Option, Some, length, refl, subst, sym, ap, arith}
use Rattle.std.proofs.Math.Logic.{∥∥₁_map}
use Rattle.std.proofs.lemmas.Option.{slice_get_within}
use Rattle.std.specs.Prelude.{option_map, slice_get, string_bytes, IfErr, OnOk, Result, Ok, Err}
use Rattle.host.specs.Answers.{Answer}
use Rattle.host.specs.Requests.{Has, Later, Read, Request, Told}
use Rattle.cobaltmidge.specs.Names.{IsInputNamed}
use Rattle.host_ports.specs.Forms.{fault_by}
use Rattle.host_ports.specs.Ports.{IsPortFault}
use Rattle.host_ports.specs.declared.form.Form.{Form}
use Rattle.host_ports.specs.declared.port.Port.{Port}
use Rattle.host_ports.specs.declared.fault.PortFault.{PortFault}
use Rattle.host_ports.specs.declared.fault.PortFault.TheVariants as port
use Rattle.kahn_program.specs.Readings.{IsInputsFailure, IsNetFailure}
use Rattle.kahn_program.specs.declared.failure.Failure.{Failure}
use Rattle.kahn_program.specs.declared.failure.Source.{Source as TextSource}
use Rattle.kahn_program.specs.declared.failure.Source.TheVariants as source
use Rattle.net_text.specs.Names.{NameTree}
use Rattle.protocol.specs.Node.Common.{Net, network_of}
use Rattle.protocol.specs.World.Common.{WorldView}
use Rattle.stream_host.specs.Streams.{IsStreamStop}
use Rattle.stream_run.specs.declared.stopped.Stopped.{Stopped}
use Rattle.stream_run.specs.declared.stopped.Stopped.TheVariants as stop
use Rattle.stream_words.specs.declared.options.StreamOptions.{StreamOptions}
use Rattle.stream_words.specs.declared.sources.InputSource.{InputSource}
use Rattle.stream_program.specs.Causes.{AreInputsOfSources, failure_of, HasCause, HasStopped, IsInputsUnread, IsTextUnread, IsToldAs, IsUnopened}
use Rattle.stream_program.specs.Causes.{memory_missing, net_unread, net_refused, inputs_unread, inputs_refused, misasked, not_made, unopened, stopped}
use Rattle.stream_program.specs.Causes.{no_memory, refused}
use Rattle.stream_program.specs.Failures.{failure_line, status_of}
use Rattle.stream_program.specs.Streamed.{AreInputsRead, AreOpened, AreOpenedAt, form_of, IsInputsText, IsNetRead, IsOpeningOf, IsPreparing}
use Rattle.stream_program.specs.declared.failure.StreamFailure.{StreamFailure}
use Rattle.stream_program.specs.declared.failure.StreamFailure.TheVariants.{Text}
use Rattle.stream_program.proofs.Preparing.{came_still, items_still, net_read_still, of_begun, of_still, text_still}

unread_still : (from : TextSource) (path : List ℕ) (old new : List Request) (failure : StreamFailure) → Later old new
    → IsTextUnread from path old failure → IsTextUnread from path new failure
unread_still from path old new failure later is = (is.0, later _ is.1, is.2)

inputs_unread_still : (options : StreamOptions) (old new : List Request) (failure : StreamFailure) → Later old new
    → IsInputsUnread options old failure → IsInputsUnread options new failure
inputs_unread_still options old new failure later (inl is) = inl is
inputs_unread_still options old new failure later (inr is) = inr (is.0, is.1, unread_still source.Inputs is.0 old new failure later is.2)

unopened_still : (sources : List InputSource) (numbers : List ℕ) (old new : List Request) (failure : StreamFailure) → Later old new
    → IsUnopened sources numbers old failure → IsUnopened sources numbers new failure
unopened_still sources numbers old new failure later (no_memory is) = no_memory is
unopened_still sources numbers old new failure later (refused place number one here there is) =
    refused place number one here there (is.0, later _ is.1, is.2)

fault_still : {allowed : Request → Type 0} (form : Form) (old new : List Request) (fault : PortFault) → IsPreparing allowed old new
    → IsPortFault form old fault → IsPortFault form new fault
fault_still {allowed} form old new port.NoMemory prepares is = tt
fault_still {allowed} form old new (port.Unread input) prepares is = (is.0, prepares.later _ is.1)
fault_still {allowed} form old new (port.Item input fault) prepares is = came_still (fault_by form) old new input prepares ∙ is
fault_still {allowed} form old new port.Unsaid prepares is = (is.0, is.1, prepares.later _ is.2)

stop_still : {allowed : Request → Type 0} (form : Form) (first : WorldView) (old new : List Request) (why : Stopped PortFault) → IsPreparing allowed old new
    → IsStreamStop form first old why → IsStreamStop form first new why
stop_still {allowed} form first old new stop.NoMemory prepares is = tt
stop_still {allowed} form first old new stop.Full prepares is =
    let many = is.many in
    let same = ap length (items_still form old new is.input prepares) in
    record { input = is.input; here = is.here; many = omega (arith, many, same) }
stop_still {allowed} form first old new (stop.Outside fault) prepares is = fault_still form old new fault prepares is

pub cause_still : {allowed : Request → Type 0} (options : StreamOptions) (old new : List Request) (names : List NameTree) (failure : StreamFailure) → IsPreparing allowed old new
    → HasCause options old names failure → HasCause options new names failure
cause_still {allowed} options old new names failure prepares (memory_missing is) = memory_missing is
cause_still {allowed} options old new names failure prepares (net_unread is) =
    net_unread (unread_still source.Net (string_bytes options.net) old new failure prepares.later is)
cause_still {allowed} options old new names failure prepares (net_refused bytes refusal had is so) =
    net_refused bytes refusal (prepares.later _ had) is so
cause_still {allowed} options old new names failure prepares (inputs_unread is) =
    inputs_unread (inputs_unread_still options old new failure prepares.later is)
cause_still {allowed} options old new names failure prepares (inputs_refused net bytes refusal net_read read is so) =
    inputs_refused net bytes refusal (net_read_still (string_bytes options.net) net old new prepares.later net_read)
    (text_still (option_map string_bytes options.inputs) net bytes old new prepares.later read) is so
cause_still {allowed} options old new names failure prepares (misasked net net_read named is) =
    misasked net (net_read_still (string_bytes options.net) net old new prepares.later net_read) named is
cause_still {allowed} options old new names failure prepares (not_made is) = not_made is
cause_still {allowed} options old new names failure prepares (unopened net numbers net_read named given is) =
    unopened net numbers (net_read_still (string_bytes options.net) net old new prepares.later net_read) named given
    (unopened_still options.sources.items numbers old new failure prepares.later is)
cause_still {allowed} options old new names failure prepares (stopped net first why of_net named is so) =
    stopped net first why (of_still options net first old new prepares.later of_net) named (stop_still (form_of options.binary) first old new why prepares is) so

-- ---- a text that is refused

pub refused_net : (options : StreamOptions) (e : List Request) (names : List NameTree) (given bytes : List ℕ) (refusal : Failure)
    (failure : StreamFailure) → given ≡ bytes → Has (Read (string_bytes options.net) (Ok bytes)) e → IsNetFailure given refusal
    → failure ≡ Text refusal → HasCause options e names failure
refused_net options e names given bytes refusal failure same had is so =
    net_refused bytes refusal had (subst (λ (b : List ℕ). IsNetFailure b refusal) same is) so

pub refused_inputs : (options : StreamOptions) (e : List Request) (names : List NameTree) (net first second : Net) (bytes given : List ℕ)
    (refusal : Failure) (failure : StreamFailure) → first ≡ net → second ≡ net → given ≡ bytes → IsNetRead (string_bytes options.net) net e
    → IsInputsText (option_map string_bytes options.inputs) first bytes e → IsInputsFailure second given refusal → failure ≡ Text refusal
    → HasCause options e names failure
refused_inputs options e names net first second bytes given refusal failure one other same net_read read is so =
    inputs_refused net bytes refusal net_read
    (subst (λ (n : Net). IsInputsText (option_map string_bytes options.inputs) n bytes e) one read)
    (subst (λ (b : List ℕ). IsInputsFailure net b refusal) same (subst (λ (n : Net). IsInputsFailure n given refusal) other is)) so

-- ---- how a run ended

-- why a run of the network that was read stopped
pub stopped_by : {T : Type 0} (options : StreamOptions) (net : Net) (first : WorldView) (old new : List Request) (result : Result T (Stopped PortFault))
    → ∥ Later old new ∥₁ → IsNetRead (string_bytes options.net) net old
    → AreInputsRead (option_map string_bytes options.inputs) net first.inputs old → first.net ≡ network_of net.program
    → IfErr result (IsStreamStop (form_of options.binary) first new) → IfErr result (λ why. ∥ HasCause options new net.channel_names.items (failure_of why) ∥₁)
stopped_by {T} options net first old new (Ok value) later net_read inputs_read same is = tt
stopped_by {T} options net first old new (Err why) later net_read inputs_read same is =
    ∥∥₁_map later (λ were. stopped net first why (of_begun options net first old new were net_read inputs_read same) refl is refl)

-- one that didn't end well has stopped for a cause, and is told so
pub has_stopped : {allowed : Request → Type 0} {T : Type 0} (options : StreamOptions) (names : List NameTree) (old new : List Request) (result : Result T (Stopped PortFault))
    (status : ℕ) → IsPreparing allowed old new → OnOk result (status ≡ 0)
    → IfErr result (λ why. ∥ HasCause options old names (failure_of why) ∥₁)
    → IfErr result (λ why. IsToldAs (failure_line names options.sources.items (failure_of why)) (status_of (failure_of why)) new status)
    → 1 ≤ status → ∥ HasStopped options new status ∥₁
has_stopped {allowed} {T} options names old new (Ok value) status prepares complete cause told some = absurd (omega (arith, complete, some))
has_stopped {allowed} {T} options names old new (Err why) status prepares complete cause told some =
    ∥∥₁_map cause (λ is. record {
      names = names;
      failure = failure_of why;
      cause = cause_still options old new names (failure_of why) prepares is;
      told = told;
    })

-- one that didn't begin has stopped for a cause, and is told so
pub has_stopped_at : {allowed : Request → Type 0} (options : StreamOptions) (names : List NameTree) (old new : List Request)
    (failure : StreamFailure) (status : ℕ) → IsPreparing allowed old new → HasCause options old names failure
    → IsToldAs (failure_line names options.sources.items failure) (status_of failure) new status → ∥ HasStopped options new status ∥₁
has_stopped_at {allowed} options names old new failure status prepares cause so_told =
    ∣ record {
      names = names;
      failure = failure;
      cause = cause_still options old new names failure prepares cause;
      told = so_told;
    } ∣₁

-- ---- how a line was told

pub told_first : (line bytes : List ℕ) (answer wanted : Answer) (e now : List Request) → now ≡ Told bytes answer ∷ e → bytes ≡ line
    → answer ≡ wanted → Has (Told line wanted) now
told_first line bytes answer wanted e now asked same is = rw (asked, same, is) (inl refl)

-- ---- sources that were opened, each for its input

pub are_opened : {S : Type 0} (net : Net) (sources : List InputSource) (numbers : List ℕ) (ports : List (Option (Port S))) (e : List Request)
    → AreInputsOfSources net sources numbers → AreOpenedAt sources numbers ports e → AreOpened net sources ports e
are_opened {S} net sources numbers ports e inputs opened = λ place one here.
    let within : place < length sources = slice_get_within sources place one here in
    let there = number_at numbers place (omega (arith, within, inputs.count)) in
    let is = opened place there.0 one here there.1 in
    let named = inputs.each place there.0 there.1 in
    let same : Some named.0 ≡ Some one = sym named.1 ∙ here in
    let this : named.0 ≡ one = cc in
    (there.0, (subst (λ (it : InputSource). IsInputNamed net (string_bytes it.input) there.0) this named.2, is.0), is.1)
  where
    number_at : (numbers : List ℕ) (place : ℕ) → place < length numbers → (number : ℕ) × (slice_get numbers place ≡ Some number)
    number_at [] place within = absurd (omega (arith, within))
    number_at (n ∷ numbers) zero within = (n, refl)
    number_at (n ∷ numbers) (suc place) within = number_at numbers place (omega (arith, within))

pub told_of : (names given : List NameTree) (sources other : List InputSource) (failure : StreamFailure) (why : Stopped PortFault)
    (e : List Request) (status : ℕ) → given ≡ names → other ≡ sources → failure ≡ failure_of why
    → IsToldAs (failure_line given other failure) (status_of failure) e status
    → IsToldAs (failure_line names sources (failure_of why)) (status_of (failure_of why)) e status
told_of names given sources other failure why e status one two is so_told = rw (← one, ← two, ← is) so_told

pub told_as : (names given : List NameTree) (sources other : List InputSource) (failure : StreamFailure) (e : List Request) (status : ℕ)
    → given ≡ names → other ≡ sources → IsToldAs (failure_line given other failure) (status_of failure) e status
    → IsToldAs (failure_line names sources failure) (status_of failure) e status
told_as names given sources other failure e status one two so_told = rw (← one, ← two) so_told

-- ---- what is so of a slice is so of its list

pub are_opened_by : {S : Type 0} (net : Net) (sources other : List InputSource) (numbers given : List ℕ) (ports : List (Option (Port S)))
    (e : List Request) → other ≡ sources → given ≡ numbers → AreInputsOfSources net sources numbers → AreOpenedAt other given ports e
    → AreOpened net sources ports e
are_opened_by {S} net sources other numbers given ports e one two inputs opened =
    are_opened net sources numbers ports e inputs (subst (λ (s : List InputSource). AreOpenedAt s numbers ports e) one
    (subst (λ (n : List ℕ). AreOpenedAt other n ports e) two opened))

pub unopened_by : (sources other : List InputSource) (numbers given : List ℕ) (e : List Request) (failure : StreamFailure) → other ≡ sources
    → given ≡ numbers → IsUnopened other given e failure → IsUnopened sources numbers e failure
unopened_by sources other numbers given e failure one two is =
    subst (λ (s : List InputSource). IsUnopened s numbers e failure) one (subst (λ (n : List ℕ). IsUnopened other n e failure) two is)

pub opening_by : (sources other : List InputSource) (r : Request) → other ≡ sources → IsOpeningOf other r → IsOpeningOf sources r
opening_by sources other r same is = subst (λ (s : List InputSource). IsOpeningOf s r) same is

pub stop_as : {T : Type 0} (first : WorldView) (e : List Request) (result : Result T (Stopped PortFault)) (form asked : Form) → form ≡ asked
    → IfErr result (IsStreamStop form first e) → IfErr result (IsStreamStop asked first e)
stop_as {T} first e result form asked same is = subst (λ (f : Form). IfErr result (IsStreamStop f first e)) same is
