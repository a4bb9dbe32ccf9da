-- What the streaming program does on its host, as the host's log has it.
use Rattle.std.specs.Prelude.{◌≡◌, ◌⊎◌, ℕ, ℤ, Bool, true, false, List, [], ◌∷◌, ◌++◌, Option, Some, None, Result, Ok, option_map, slice_get, string_bytes}
use Rattle.host.specs.Answers.{Answer}
use Rattle.host.specs.Requests.{Has, Later, OpenedSource, Read, Request, Told}
use Rattle.host.specs.declared.fault.HostFault.{HostFault}
use Rattle.host.specs.Sources.{has_ended, said_bytes, taken_from}
use Rattle.protocol.specs.Node.Common.{Channel, Net, network_of, Outside, Port as End, Process}
use Rattle.host_ports.specs.Ports.{ended_well, has_source, IsOfStreams}
use Rattle.host_ports.specs.declared.form.Form.{Form}
use Rattle.host_ports.specs.declared.form.Form.TheVariants.{Decimal, Binary}
use Rattle.host_ports.specs.declared.port.Port.{Port}
use Rattle.cobaltmidge.specs.Names.{IsInputNamed}
use Rattle.stream_words.specs.declared.sources.InputSource.{InputSource}
use Rattle.protocol.specs.World.Common.{WorldView}
use Rattle.net_text.specs.Names.{NameTree}
use Rattle.stream_host.specs.Streams.{HasSaid, HasSaidAll}
use Rattle.cobaltmidge.specs.Texts.{AreInputsOf, IsNetOf}
use Rattle.stream_words.specs.declared.options.StreamOptions.{StreamOptions}

-- ---- what is asked of the host

abbrev pub IsReadOf : List ℕ → Request → Type 0
IsReadOf path r = (answer : Result (List ℕ) HostFault) × (r ≡ Read path answer)

abbrev pub IsOpeningAt : List ℕ → Request → Type 0
IsOpeningAt path r = (number : ℕ) × (answer : Answer) × (r ≡ OpenedSource number path answer)

-- one of these sources is opened
abbrev pub IsOpeningOf : List InputSource → Request → Type 0
IsOpeningOf sources r =
    (place : ℕ) × (one : InputSource) × (slice_get sources place ≡ Some one) × IsOpeningAt (string_bytes one.path) r

abbrev pub IsTelling : Request → Type 0
IsTelling r = (bytes : List ℕ) × (answer : Answer) × (r ≡ Told bytes answer)

-- What the program asks until it tells how it ended: the texts that the command line names, its sources, what comes next of a source, and to write on
-- standard output.
pub data IsRunFor (options : StreamOptions) (r : Request) : Type 0 where
  reads_net : IsReadOf (string_bytes options.net) r → IsRunFor options r
  reads_inputs : (path : List ℕ) → option_map string_bytes options.inputs ≡ Some path → IsReadOf path r → IsRunFor options r
  opens : IsOpeningOf options.sources.items r → IsRunFor options r
  streams : IsOfStreams r → IsRunFor options r

pub record IsAllRunFor (options : StreamOptions) (e : List Request) : Type 0 where
  pub each : (r : Request) → Has r e → IsRunFor options r

-- What it asks at all: that, and to write on standard error. So it makes nothing, removes nothing and writes to no file.
abbrev pub IsAllAskedFor : StreamOptions → List Request → Type 0
IsAllAskedFor options e = (r : Request) → Has r e → IsRunFor options r ⊎ IsTelling r

-- nothing was told
pub record IsUntold (e : List Request) : Type 0 where
  pub none : (r : Request) → Has r e → IsTelling r → ⊥

-- A step of the program before its streams begin, or behind them: what was asked before was asked still, else only what is allowed, nothing was said,
-- and nothing came.
pub record IsPreparing (allowed : Request → Type 0) (old new : List Request) : Type 0 where
  pub later : Later old new
  pub only : (r : Request) → Has r new → Has r old ⊎ allowed r
  pub said : said_bytes new ≡ said_bytes old
  pub taken : (input : ℕ) → taken_from input new ≡ taken_from input old
  pub ended : (input : ℕ) → has_ended input new ≡ has_ended input old

-- ---- the texts

-- The text of this file was read, and describes this network.
pub record IsNetRead (path : List ℕ) (net : Net) (e : List Request) : Type 0 where
  pub text : List ℕ
  pub read : Has (Read path (Ok text)) e
  pub is : IsNetOf text net

-- a line without items, where a process doesn't put on the channel
abbrev pub line_if_input : End → NameTree → List ℕ → List ℕ
line_if_input Outside name others = name.text ++ 58 ∷ 10 ∷ others
line_if_input (Process p) name others = others

-- a text of the inputs in which each has a line without items
abbrev pub no_items : List Channel → List NameTree → List ℕ
no_items [] names = []
no_items (channel ∷ channels) [] = []
no_items (channel ∷ channels) (name ∷ names) = line_if_input channel.producer name (no_items channels names)

-- The text of the inputs: that of the file, where one is given, and else one without items.
abbrev pub IsInputsText : Option (List ℕ) → Net → List ℕ → List Request → Type 0
IsInputsText None net text e = text ≡ no_items net.program.channels.items net.channel_names.items
IsInputsText (Some path) net text e = Has (Read path (Ok text)) e

-- The inputs begin with the items of their text.
pub record AreInputsRead (path : Option (List ℕ)) (net : Net) (first : List (List ℤ)) (e : List Request) : Type 0 where
  pub text : List ℕ
  pub read : IsInputsText path net text e
  pub are : AreInputsOf text net first

-- the names before the items, where these aren't printed bare
abbrev pub spoken_names : Bool → List NameTree → Option (List NameTree)
spoken_names true names = None
spoken_names false names = Some names

-- how items are spelled: as bytes, or as decimal text
abbrev pub form_of : Bool → Form
form_of true = Binary
form_of false = Decimal

-- A network that was read, its world on the inputs that were read, and the world to which it came.
pub record IsOf (options : StreamOptions) (net : Net) (first : WorldView) (e : List Request) : Type 0 where
  pub net_read : IsNetRead (string_bytes options.net) net e
  pub inputs_read : AreInputsRead (option_map string_bytes options.inputs) net first.inputs e
  pub same_net : first.net ≡ network_of net.program

-- ---- the sources

-- what stands at this path was opened, for the channel of this number
abbrev pub IsOpenedAt : ℕ → List ℕ → List Request → Type 0
IsOpenedAt number path e = Has (OpenedSource number path (Ok tt)) e

-- so was an input's source, for that input's channel
abbrev pub IsOpenedFor : Net → InputSource → ℕ → List Request → Type 0
IsOpenedFor net one number e = IsInputNamed net (string_bytes one.input) number × IsOpenedAt number (string_bytes one.path) e

-- and has come to its end, and all that came of it is items
abbrev pub IsEndedSource : Form → Net → List Request → InputSource → Type 0
IsEndedSource form net e one = (number : ℕ) × IsOpenedFor net one number e × (ended_well form number e ≡ true)

abbrev pub AreEndedSources : Form → Net → List InputSource → List Request → Type 0
AreEndedSources form net sources e = (place : ℕ) (one : InputSource) → slice_get sources place ≡ Some one → IsEndedSource form net e one

-- each was opened, for the channel whose number stands in its place, and is there to be read
abbrev pub AreOpenedAt : {S : Type 0} → List InputSource → List ℕ → List (Option (Port S)) → List Request → Type 0
AreOpenedAt {S} sources numbers ports e =
    (place number : ℕ) (one : InputSource) → slice_get sources place ≡ Some one → slice_get numbers place ≡ Some number
    → IsOpenedAt number (string_bytes one.path) e × (has_source (slice_get ports number) ≡ true)

-- each was opened for its input, and is there to be read
abbrev pub AreOpened : {S : Type 0} → Net → List InputSource → List (Option (Port S)) → List Request → Type 0
AreOpened {S} net sources ports e =
    (place : ℕ) (one : InputSource) → slice_get sources place ≡ Some one
    → (number : ℕ) × IsOpenedFor net one number e × (has_source (slice_get ports number) ≡ true)

-- ---- what was said

-- Nothing was said; or what was said is right on what came so far, by the network and the inputs that were read.
pub data IsStreamed (options : StreamOptions) (e : List Request) : Type 0 where
  nothing : said_bytes e ≡ [] → IsStreamed options e
  something : (net : Net) (first now : WorldView) → IsOf options net first e
      → HasSaid (form_of options.binary) (spoken_names options.bare net.channel_names.items) first now e → IsStreamed options e

-- Each source came to its end, and what was said is all that can leave.
pub record HasEnded (options : StreamOptions) (e : List Request) : Type 0 where
  pub net : Net
  pub first : WorldView
  pub now : WorldView
  pub of_net : IsOf options net first e
  pub sources : AreEndedSources (form_of options.binary) net options.sources.items e
  pub said : HasSaidAll (form_of options.binary) (spoken_names options.bare net.channel_names.items) first now e
