-- Why the streams end early, by what stands in the log, and how that is told.
use Rattle.std.specs.Prelude.{◌≡◌, ◌⊎◌, ◌<◌, ◌+◌, ℕ, Bool, false, if◌then◌else◌, IsTrue, List, [], ◌∷◌, Some, None, Ok, Err, codes, length, option_map, slice_get, string_bytes}
use Rattle.std.specs.Str.{bytes_eq}
use Rattle.host.specs.Requests.{Has, OpenedSource, Read, Request, Told}
use Rattle.host.specs.declared.fault.HostFault.{HostFault}
use Rattle.cobaltmidge.specs.Errors.{error_number, IsRunError}
use Rattle.cobaltmidge.specs.Names.{IsInputNamed}
use Rattle.cobaltmidge.specs.declared.error.Error.{Error}
use Rattle.cobaltmidge.specs.declared.error.Error.TheVariants as error
use Rattle.kahn_program.specs.Readings.{IsInputsFailure, IsNetFailure}
use Rattle.kahn_program.specs.declared.failure.Failure.{Failure}
use Rattle.kahn_program.specs.declared.failure.Failure.TheVariants as text
use Rattle.kahn_program.specs.declared.failure.Source.{Source as TextSource}
use Rattle.kahn_program.specs.declared.failure.Source.TheVariants as source
use Rattle.net_text.specs.Names.{NameTree}
use Rattle.protocol.specs.Node.Common.{Channel, Net, network_of}
use Rattle.protocol.specs.World.Common.{goes_outside, WorldView}
use Rattle.world.specs.Feeding.{is_input}
use Rattle.host_ports.specs.declared.fault.PortFault.{PortFault}
use Rattle.host_ports.specs.declared.fault.PortFault.TheVariants.{Unread}
use Rattle.stream_host.specs.Streams.{IsStreamStop}
use Rattle.stream_run.specs.declared.stopped.Stopped.{Stopped}
use Rattle.stream_run.specs.declared.stopped.Stopped.TheVariants as stop
use Rattle.stream_words.specs.declared.options.StreamOptions.{StreamOptions}
use Rattle.stream_words.specs.declared.sources.InputSource.{InputSource}
use Rattle.stream_program.specs.Failures.{failure_line, status_of}
use Rattle.stream_program.specs.Streamed.{form_of, IsInputsText, IsNetRead, IsOf, IsUntold}
use Rattle.stream_program.specs.declared.failure.StreamFailure.{StreamFailure}
use Rattle.stream_program.specs.declared.failure.StreamFailure.TheVariants.{Text, Refused, Missing, NotOne, Port, Full}

-- ---- the texts

-- a text's file wasn't read, as the host said
abbrev pub IsTextUnread : TextSource → List ℕ → List Request → StreamFailure → Type 0
IsTextUnread source path e failure =
    (fault : HostFault) × Has (Read path (Err fault)) e
    × ((failure ≡ Text text.NoMemory) ⊎ (failure ≡ Text (text.Unreadable source)))

-- there is no memory for the text of the inputs, or its file wasn't read
abbrev pub IsInputsUnread : StreamOptions → List Request → StreamFailure → Type 0
IsInputsUnread options e failure =
    (failure ≡ Text text.NoMemory)
    ⊎ ((path : List ℕ) × (option_map string_bytes options.inputs ≡ Some path) × IsTextUnread source.Inputs path e failure)

-- what it comes to that a network can't be opened
abbrev pub opening_failure : Error → Failure
opening_failure error.NoMemory = text.NoMemory
opening_failure (error.NetText fault) = text.Other (error_number (error.NetText fault))
opening_failure (error.InputsText fault) = text.Other (error_number (error.InputsText fault))
opening_failure (error.Net fault) = text.Other (error_number (error.Net fault))
opening_failure (error.Inputs fault) = text.Other (error_number (error.Inputs fault))
opening_failure (error.Script fault) = text.Other (error_number (error.Script fault))
opening_failure (error.Run fault) = text.Other (error_number (error.Run fault))

-- why a network can't be opened: a device failed, which is in memory, or memory is missing
abbrev pub IsUnmade : StreamFailure → Type 0
IsUnmade failure = (why : Error) × IsRunError false why × (failure ≡ Text (opening_failure why))

-- ---- what the command line asks of a network

-- the name of standard input
abbrev pub is_standard : List ℕ → Bool
is_standard path = bytes_eq path (codes "-")

-- these are the inputs of the sources, each in the place of its source
pub record AreInputsOfSources (net : Net) (sources : List InputSource) (numbers : List ℕ) : Type 0 where
  pub count : length numbers ≡ length sources
  pub each : (place number : ℕ) → slice_get numbers place ≡ Some number
      → (one : InputSource) × (slice_get sources place ≡ Some one) × IsInputNamed net (string_bytes one.input) number

-- two sources are for one input
abbrev pub HaveOneInput : Net → InputSource → InputSource → Type 0
HaveOneInput net one other =
    (number : ℕ) × IsInputNamed net (string_bytes one.input) number × IsInputNamed net (string_bytes other.input) number

-- they are standard input both
abbrev pub AreStandard : InputSource → InputSource → Type 0
AreStandard one other = IsTrue (is_standard (string_bytes one.path)) × IsTrue (is_standard (string_bytes other.path))

-- What is wrong with a source: it is for what is no input (11), or an earlier one is for the same input or is standard input too (10). Or memory
-- is missing.
pub data IsSourceFault (net : Net) (sources : List InputSource) (failure : StreamFailure) : Type 0 where
  memory : failure ≡ Text text.NoMemory → IsSourceFault net sources failure
  unknown : (place : ℕ) (one : InputSource) → slice_get sources place ≡ Some one
      → ((number : ℕ) → IsInputNamed net (string_bytes one.input) number → ⊥) → failure ≡ Refused place 11
      → IsSourceFault net sources failure
  repeated : (earlier place : ℕ) (one other : InputSource) → earlier < place → slice_get sources earlier ≡ Some one
      → slice_get sources place ≡ Some other → HaveOneInput net one other ⊎ AreStandard one other → failure ≡ Refused place 10
      → IsSourceFault net sources failure

-- a network's input has none of these sources, and no text gives its items
pub record IsUngiven (options : StreamOptions) (net : Net) (numbers : List ℕ) (input : ℕ) : Type 0 where
  pub here : IsTrue (is_input (network_of net.program) input)
  pub no_text : options.inputs ≡ None
  pub no_source : (place : ℕ) → slice_get numbers place ≡ Some input → ⊥

-- how many of these channels are outputs
abbrev pub output_count : List Channel → ℕ
output_count [] = 0
output_count (channel ∷ channels) = (if goes_outside channel.consumer then 1 else 0) + output_count channels

-- Why the command line doesn't fit the network: the items of one output alone are asked for, and there isn't one output; a source has a fault; or
-- an input has no items.
pub data IsMisasked (options : StreamOptions) (net : Net) (failure : StreamFailure) : Type 0 where
  not_one : IsTrue options.bare → ¬ (output_count net.program.channels.items ≡ 1) → failure ≡ NotOne → IsMisasked options net failure
  bad_source : IsSourceFault net options.sources.items failure → IsMisasked options net failure
  missing : (numbers : List ℕ) (input : ℕ) → AreInputsOfSources net options.sources.items numbers → IsUngiven options net numbers input
      → failure ≡ Missing input → IsMisasked options net failure

-- a source wasn't opened, as the host said
abbrev pub IsPathUnopened : ℕ → List ℕ → List Request → StreamFailure → Type 0
IsPathUnopened number path e failure =
    (fault : HostFault) × Has (OpenedSource number path (Err fault)) e
    × ((failure ≡ Text text.NoMemory) ⊎ (failure ≡ Port (Unread number)))

-- one of these sources wasn't opened, for its input, or memory is missing
pub data IsUnopened (sources : List InputSource) (numbers : List ℕ) (e : List Request) (failure : StreamFailure) : Type 0 where
  no_memory : failure ≡ Text text.NoMemory → IsUnopened sources numbers e failure
  refused : (place number : ℕ) (one : InputSource) → slice_get sources place ≡ Some one → slice_get numbers place ≡ Some number
      → IsPathUnopened number (string_bytes one.path) e failure → IsUnopened sources numbers e failure

-- ---- all causes

-- what a stopped run comes to
abbrev pub failure_of : Stopped PortFault → StreamFailure
failure_of stop.NoMemory = Text text.NoMemory
failure_of stop.Full = Full
failure_of (stop.Outside fault) = Port fault

-- Why the streams end early, by what stands in the log, where channels have these names: a text wasn't read, or what was read is refused; the
-- command line doesn't fit the network that was read; a source wasn't opened; or a run of that network stopped. Want of memory leaves nothing in the
-- log, nor does a failure of the disks, which are in memory.
pub data HasCause (options : StreamOptions) (e : List Request) (names : List NameTree) (failure : StreamFailure) : Type 0 where
  memory_missing : failure ≡ Text text.NoMemory → HasCause options e names failure
  net_unread : IsTextUnread source.Net (string_bytes options.net) e failure → HasCause options e names failure
  net_refused : (bytes : List ℕ) (refusal : Failure) → Has (Read (string_bytes options.net) (Ok bytes)) e → IsNetFailure bytes refusal
      → failure ≡ Text refusal → HasCause options e names failure
  inputs_unread : IsInputsUnread options e failure → HasCause options e names failure
  inputs_refused : (net : Net) (bytes : List ℕ) (refusal : Failure) → IsNetRead (string_bytes options.net) net e
      → IsInputsText (option_map string_bytes options.inputs) net bytes e → IsInputsFailure net bytes refusal → failure ≡ Text refusal
      → HasCause options e names failure
  misasked : (net : Net) → IsNetRead (string_bytes options.net) net e → names ≡ net.channel_names.items → IsMisasked options net failure
      → HasCause options e names failure
  not_made : IsUnmade failure → HasCause options e names failure
  unopened : (net : Net) (numbers : List ℕ) → IsNetRead (string_bytes options.net) net e → names ≡ net.channel_names.items
      → AreInputsOfSources net options.sources.items numbers → IsUnopened options.sources.items numbers e failure
      → HasCause options e names failure
  stopped : (net : Net) (first : WorldView) (why : Stopped PortFault) → IsOf options net first e → names ≡ net.channel_names.items
      → IsStreamStop (form_of options.binary) first e why → failure ≡ failure_of why → HasCause options e names failure

-- How it is told: by this line, and then the status is this; or the status is 1, since the host didn't write it, or since there was no memory for it, so
-- that nothing was told.
pub data IsToldAs (line : List ℕ) (wanted : ℕ) (e : List Request) (status : ℕ) : Type 0 where
  told : Has (Told line (Ok tt)) e → status ≡ wanted → IsToldAs line wanted e status
  untold : (fault : HostFault) → Has (Told line (Err fault)) e → status ≡ 1 → IsToldAs line wanted e status
  no_line : IsUntold e → status ≡ 1 → IsToldAs line wanted e status

-- The streams ended early, for a failure that has its cause in the log, and it was told.
pub record HasStopped (options : StreamOptions) (e : List Request) (status : ℕ) : Type 0 where
  pub names : List NameTree
  pub failure : StreamFailure
  pub cause : HasCause options e names failure
  pub told : IsToldAs (failure_line names options.sources.items failure) (status_of failure) e status
