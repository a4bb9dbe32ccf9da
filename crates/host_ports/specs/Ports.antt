-- What came by the sources of a network's inputs, as a host's log has it.
use Rattle.std.specs.Prelude.{◌≡◌, ◌⊎◌, ◌++◌, ℕ, ℤ, Bool, true, false, if◌then◌else◌, List, Option, Some, None, IfErr, IfOk, OnErr, OnOk, Result, Err, is_some, slice_get}
use Rattle.kahn_net.specs.Streams.{IsPrefix}
use Rattle.host.specs.Answers.{Answer}
use Rattle.host.specs.Requests.{Request, Has, Later, Took, Said}
use Rattle.host.specs.Sources.{has_ended, taken_from}
use Rattle.host.specs.declared.fault.HostFault.{HostFault}
use Rattle.host_ports.specs.Forms.{fault_by, fault_in, items_by, reader_by}
use Rattle.host_ports.specs.declared.fault.BadItem.{BadItem}
use Rattle.host_ports.specs.declared.form.Form.{Form}
use Rattle.host_ports.specs.declared.reader.Reader.{Reader}
use Rattle.host_ports.specs.declared.fault.PortFault.{PortFault}
use Rattle.host_ports.specs.declared.port.Port.{Port}
use Rattle.host_ports.specs.declared.fault.PortFault.TheVariants.{NoMemory, Unread, Item, Unsaid}

-- the items that came by an input so far
abbrev pub items_from : Form → ℕ → List Request → List ℤ
items_from form input e = items_by form (taken_from input e) (has_ended input e)

-- what is wrong with what came
abbrev pub fault_from : Form → ℕ → List Request → Option BadItem
fault_from form input e = fault_by form (taken_from input e) (has_ended input e)

-- a reader that has read it
abbrev pub reader_from : Form → ℕ → List Request → Reader
reader_from form input e = reader_by form (taken_from input e) (has_ended input e)

-- an input's source came to its end, and nothing but items came by it
abbrev pub ended_well : Form → ℕ → List Request → Bool
ended_well form input e = if is_some (fault_from form input e) then false else has_ended input e

-- why the streams can't go on, by what stands in the log
abbrev pub IsPortFault : Form → List Request → PortFault → Type 0
IsPortFault form e NoMemory = Unit {0}
IsPortFault form e (Unread input) = (fault : HostFault) × Has (Took input (Err fault)) e
IsPortFault form e (Item input fault) = fault_from form input e ≡ Some fault
IsPortFault form e Unsaid = (bytes : List ℕ) × (fault : HostFault) × Has (Said bytes (Err fault)) e

-- How far a source is read stands to the log: its end is noted, and all that was taken of it is read, unless it is lost.
pub record PortStands {S : Type 0} (form : Form) (e : List Request) (input : ℕ) (port : Port S) : Type 0 where
  pub ended : port.has_ended ≡ has_ended input e
  pub read : port.is_lost ≡ false → port.reader ≡ reader_from form input e

-- Why it can't be read on, whatever the log to which it stands.
abbrev pub IsFaultOf : {S : Type 0} → ℕ → Port S → PortFault → Type 0
IsFaultOf {S} input port fault = (form : Form) (e : List Request) → PortStands form e input port → IsPortFault form e fault

-- An input's source may have more, or there is none or all of it came and was read.
abbrev pub IsOpenOrNot : {S : Type 0} → Bool → Option (Port S) → Type 0
IsOpenOrNot {S} true None = ⊥
IsOpenOrNot {S} true (Some port) = (port.has_ended ≡ false) × (port.is_lost ≡ false)
IsOpenOrNot {S} false None = Unit {0}
IsOpenOrNot {S} false (Some port) = (port.has_ended ≡ true) × (port.is_lost ≡ false) × (fault_in port.reader port.has_ended ≡ None)

-- A source was read on, from one log to the next: these items came of it, or it failed for this reason. False is the end of what comes.
pub record IsReadOn {S : Type 0} (form : Form) (e now : List Request) (input : ℕ) (port : Port S) (items : List ℤ) (result : Result Bool PortFault)
    : Type 0 where
  pub stands : PortStands form now input port
  pub came : OnOk result (items_from form input now ≡ items_from form input e ++ items)
  pub lost : OnErr result (IsPrefix (items_from form input e) (items_from form input now))
  pub kept : IfErr result (λ fault. ¬ (fault ≡ NoMemory) → items_from form input now ≡ items_from form input e)
  pub end : IfOk result (λ more. more ≡ false → ended_well form input now ≡ true)
  pub failed : IfErr result (IsPortFault form now)

-- It has the number of its input.
pub record PortIsFor {S : Type 0} (form : Form) (source_number : S → ℕ) (e : List Request) (input : ℕ) (port : Port S) : Type 0 where
  pub number : source_number port.source ≡ input
  pub stands : PortStands form e input port

-- And so it is with the sources of all inputs that have one.
abbrev pub PortsStand : {S : Type 0} → Form → (S → ℕ) → List Request → List (Option (Port S)) → Type 0
PortsStand {S} form source_number e ports =
    (input : ℕ) (port : Port S) → slice_get ports input ≡ Some (Some port) → PortIsFor form source_number e input port

-- an input has a source
abbrev pub has_source : {S : Type 0} → Option (Option (Port S)) → Bool
has_source None = false
has_source (Some None) = false
has_source (Some (Some port)) = true

-- the inputs with a source are the same
abbrev pub HaveTheSame : {S : Type 0} → List (Option (Port S)) → List (Option (Port S)) → Type 0
HaveTheSame {S} given ports = (input : ℕ) → has_source (slice_get ports input) ≡ has_source (slice_get given input)

-- it is asked of a source, or to write on standard output
pub data IsOfStreams (r : Request) : Type 0 where
  took : (number : ℕ) (answer : Result (List ℕ) HostFault) → r ≡ Took number answer → IsOfStreams r
  said : (bytes : List ℕ) (answer : Answer) → r ≡ Said bytes answer → IsOfStreams r

-- A host was asked on: what it was asked before it was asked still, and all else was asked of sources and of standard output.
pub record IsAskedOn (old new : List Request) : Type 0 where
  pub later : Later old new
  pub only : (r : Request) → Has r new → Has r old ⊎ IsOfStreams r

-- an input came to its end, or has no source
abbrev pub is_at_end : {S : Type 0} → Option (Option (Port S)) → Bool → Bool
is_at_end None ended = true
is_at_end (Some None) ended = true
is_at_end (Some (Some port)) ended = ended
