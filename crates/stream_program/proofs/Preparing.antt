-- What is asked before streams begin changes nothing of what came and was said.
use Rattle.std.proofs.Common.{◌≡◌, ◌∙◌, ◌⊎◌, inl, inr, ℕ, ℤ, List, [], ◌∷◌, ◌++◌, Option, Some, None, refl, subst, sym, ap, ap₂}
use mathlib.Core.HLevel.{⊥_prop}
use Rattle.std.proofs.Math.Logic.{∥∥₁_elim, ∥∥₁_map}
use Rattle.std.specs.Prelude.{Bool, true, false, if◌then◌else◌, is_some, IsTrue, option_map, slice_get, string_bytes, OnErr, OnOk, Result, Ok, Err}
use Rattle.host.specs.Answers.{Answer}
use Rattle.host.specs.Requests.{Has, Later, OpenedSource, Read, Request, Told}
use Rattle.host.specs.Sources.{has_ended, taken_from}
use Rattle.host.specs.declared.fault.HostFault.{HostFault}
use Rattle.host_ports.specs.Forms.{fault_by, items_by}
use Rattle.host_ports.specs.declared.form.Form.{Form}
use Rattle.host_ports.specs.Ports.{ended_well, has_source, IsAskedOn, IsOfStreams, items_from}
use Rattle.host_ports.specs.Ports as asked_by
use Rattle.host_ports.specs.declared.port.Port.{Port}
use Rattle.kahn_net.specs.Streams.{history_of}
use Rattle.outside.specs.declared.departure.Departure.{Departure}
use Rattle.net_text.specs.Names.{NameTree}
use Rattle.cobaltmidge.specs.Names.{comes_in, is_outside, IsInputNamed}
use Rattle.protocol.specs.Node.Common.{Channel, Net, network_of, Outside, Port as End, Process}
use Rattle.protocol.specs.World.Common.{WorldView}
use Rattle.world.specs.Feeding.{comes_from_outside, is_input, is_input_by}
use Rattle.stream_words.specs.declared.options.StreamOptions.{StreamOptions}
use Rattle.stream_words.specs.declared.sources.InputSource.{InputSource}
use Rattle.stream_host.specs.Streams.{HasSaid, HasSaidAll, IsFresh, IsRight}
use Rattle.stream_program.specs.Streamed.{AreEndedSources, AreInputsRead, AreOpened, form_of, HasEnded, IsAllAskedFor, IsAllRunFor, IsInputsText, IsNetRead, IsOf, IsOpeningAt, IsPreparing, IsRunFor, IsStreamed, IsTelling, IsUntold, nothing, opens, reads_inputs, reads_net, something, spoken_names, streams}

one_more : (allowed : Request → Type 0) (e : List Request) (asked : Request) → allowed asked → (r : Request) → (r ≡ asked) ⊎ Has r e
    → Has r e ⊎ allowed r
one_more allowed e asked is r (inl same) = inr (subst allowed (sym same) is)
one_more allowed e asked is r (inr had) = inl had

pub prepares_nothing : (allowed : Request → Type 0) (e : List Request) → IsPreparing allowed e e
prepares_nothing allowed e =
    record { later = λ r had. had; only = λ r had. inl had; said = refl; taken = λ input. refl; ended = λ input. refl }

pub prepares_read : (allowed : Request → Type 0) (e : List Request) (path : List ℕ) (answer : Result (List ℕ) HostFault)
    → allowed (Read path answer) → IsPreparing allowed e (Read path answer ∷ e)
prepares_read allowed e path answer is =
    record {
      later = λ r had. inr had;
      only = one_more allowed e (Read path answer) is;
      said = refl;
      taken = λ input. refl;
      ended = λ input. refl;
    }

pub prepares_told : (e : List Request) (bytes : List ℕ) (answer : Answer) → IsPreparing IsTelling e (Told bytes answer ∷ e)
prepares_told e bytes answer =
    record {
      later = λ r had. inr had;
      only = one_more IsTelling e (Told bytes answer) (bytes, answer, refl);
      said = refl;
      taken = λ input. refl;
      ended = λ input. refl;
    }

pub prepares_opened : (e : List Request) (number : ℕ) (path : List ℕ) (answer : Answer)
    → IsPreparing (IsOpeningAt path) e (OpenedSource number path answer ∷ e)
prepares_opened e number path answer =
    record {
      later = λ r had. inr had;
      only = one_more (IsOpeningAt path) e (OpenedSource number path answer) (number, answer, refl);
      said = refl;
      taken = λ input. refl;
      ended = λ input. refl;
    }

pub prepares_then : {allowed : Request → Type 0} (first second third : List Request) → IsPreparing allowed first second
    → IsPreparing allowed second third → IsPreparing allowed first third
prepares_then {allowed} first second third before after =
    record {
      later = λ r had. after.later r (before.later r had);
      only = λ r had. either r (after.only r had);
      said = after.said ∙ before.said;
      taken = λ input. after.taken input ∙ before.taken input;
      ended = λ input. after.ended input ∙ before.ended input;
    }
  where
    either : (r : Request) → Has r second ⊎ allowed r → Has r first ⊎ allowed r
    either r (inl had) = before.only r had
    either r (inr is) = inr is

-- what only some may do all may who may do more
pub prepares_by : (some more : Request → Type 0) (old new : List Request) → ((r : Request) → some r → more r) → IsPreparing some old new
    → IsPreparing more old new
prepares_by some more old new weaker is =
    record {
      later = is.later;
      only = λ r had. either r (is.only r had);
      said = is.said;
      taken = is.taken;
      ended = is.ended;
    }
  where
    either : (r : Request) → Has r old ⊎ some r → Has r old ⊎ more r
    either r (inl had) = inl had
    either r (inr done) = inr (weaker r done)

pub fresh_still : {allowed : Request → Type 0} (old new : List Request) → IsPreparing allowed old new → IsFresh old → IsFresh new
fresh_still {allowed} old new prepares fresh = λ input.
    (prepares.taken input ∙ (fresh input).0, prepares.ended input ∙ (fresh input).1)

pub fresh_first : (e : List Request) → e ≡ [] → IsFresh e
fresh_first e none = rw none (λ input. (refl, refl))

-- what was read was read still
pub net_read_still : (path : List ℕ) (net : Net) (old new : List Request) → Later old new → IsNetRead path net old → IsNetRead path net new
net_read_still path net old new later is = record { text = is.text; read = later _ is.read; is = is.is }

pub text_still : (path : Option (List ℕ)) (net : Net) (text : List ℕ) (old new : List Request) → Later old new → IsInputsText path net text old
    → IsInputsText path net text new
text_still None net text old new later is = is
text_still (Some path) net text old new later is = later _ is

pub inputs_read_still : (path : Option (List ℕ)) (net : Net) (first : List (List ℤ)) (old new : List Request) → Later old new
    → AreInputsRead path net first old → AreInputsRead path net first new
inputs_read_still path net first old new later are =
    record { text = are.text; read = text_still path net are.text old new later are.read; are = are.are }

-- ---- what was said was said still

pub of_still : (options : StreamOptions) (net : Net) (first : WorldView) (old new : List Request) → Later old new → IsOf options net first old
    → IsOf options net first new
of_still options net first old new later is =
    record {
      net_read = net_read_still (string_bytes options.net) net old new later is.net_read;
      inputs_read = inputs_read_still (option_map string_bytes options.inputs) net first.inputs old new later is.inputs_read;
      same_net = is.same_net;
    }

pub of_begun : (options : StreamOptions) (net : Net) (first : WorldView) (old new : List Request) → Later old new
    → IsNetRead (string_bytes options.net) net old → AreInputsRead (option_map string_bytes options.inputs) net first.inputs old
    → first.net ≡ network_of net.program → IsOf options net first new
of_begun options net first old new later net_read inputs_read same =
    of_still options net first old new later (record { net_read = net_read; inputs_read = inputs_read; same_net = same })

-- what was said is by the network and the inputs that were read
pub said_by : (options : StreamOptions) (net : Net) (first now : WorldView) (form : Form) (names : Option (List NameTree)) (old new : List Request)
    → Later old new → IsNetRead (string_bytes options.net) net old
    → AreInputsRead (option_map string_bytes options.inputs) net first.inputs old → first.net ≡ network_of net.program
    → form ≡ form_of options.binary → names ≡ spoken_names options.bare net.channel_names.items → HasSaid form names first now new → IsStreamed options new
said_by options net first now form names old new later net_read inputs_read same spelled spoken said =
    something net first now (of_begun options net first old new later net_read inputs_read same) (rw (← spelled, ← spoken) said)

-- the input of a name is an input
is_input_by_name : (net : Net) (world : WorldView) (name : List ℕ) (number : ℕ) → world.net ≡ network_of net.program
    → IsInputNamed net name number → IsTrue (is_input world.net number)
is_input_by_name net world name number same named = rw same (by_channel (slice_get net.program.channels.items number) named.1)
  where
    by_channel : (channel : Option Channel) → IsTrue (comes_in channel) → IsTrue (is_input_by channel)
    by_channel None is = is
    by_channel (Some channel) is = by_end channel.producer is
      where
        by_end : (end : End) → IsTrue (is_outside end) → IsTrue (comes_from_outside end)
        by_end Outside is = is
        by_end (Process process) is = is

-- each source that was opened has come to its end
ended_sources : {S : Type 0} (form : Form) (net : Net) (first : WorldView) (sources : List InputSource) (ports : List (Option (Port S))) (old new : List Request)
    → Later old new → first.net ≡ network_of net.program → AreOpened net sources ports old
    → ((input : ℕ) → IsTrue (is_input first.net input) → has_source (slice_get ports input) ≡ true → ended_well form input new ≡ true)
    → AreEndedSources form net sources new
ended_sources {S} form net first sources ports old new later same opened ended = λ place one here.
    let is = opened place one here in
    (is.0, (is.1.0, later _ is.1.1), ended is.0 (is_input_by_name net first (string_bytes one.input) is.0 same is.1.0) is.2)

-- and where the streams end well it is all
pub ended_by : {S T E : Type 0} (options : StreamOptions) (net : Net) (first now : WorldView) (form : Form) (names : Option (List NameTree))
    (ports : List (Option (Port S))) (old new : List Request) (result : Result T E) → ∥ Later old new ∥₁ → IsNetRead (string_bytes options.net) net old
    → AreInputsRead (option_map string_bytes options.inputs) net first.inputs old → first.net ≡ network_of net.program
    → form ≡ form_of options.binary → names ≡ spoken_names options.bare net.channel_names.items → AreOpened net options.sources.items ports old
    → OnOk result ((input : ℕ) → IsTrue (is_input first.net input) → has_source (slice_get ports input) ≡ true → ended_well form input new ≡ true)
    → OnOk result (HasSaidAll form names first now new) → OnOk result (∥ HasEnded options new ∥₁)
ended_by {S} {T} {E} options net first now form names ports old new (Ok value) later net_read inputs_read same spelled spoken opened ended said =
    ∥∥₁_map later (λ were. record {
      net = net;
      first = first;
      now = now;
      of_net = of_begun options net first old new were net_read inputs_read same;
      sources = subst (λ (f : Form). AreEndedSources f net options.sources.items new) spelled
          (ended_sources form net first options.sources.items ports old new were same opened ended);
      said = rw (← spelled, ← spoken) said;
    })
ended_by {S} {T} {E} options net first now form names ports old new (Err fault) later net_read inputs_read same spelled spoken opened ended said = tt

-- ---- what was said is right still, behind what is asked that says nothing and by which nothing comes

-- what follows from what came and from its end follows still
pub came_still : {allowed : Request → Type 0} {A : Type 0} (f : List ℕ → Bool → A) (old new : List Request) (input : ℕ) → IsPreparing allowed old new
    → f (taken_from input new) (has_ended input new) ≡ f (taken_from input old) (has_ended input old)
came_still {allowed} {A} f old new input prepares = ap₂ f (prepares.taken input) (prepares.ended input)

pub items_still : {allowed : Request → Type 0} (form : Form) (old new : List Request) (input : ℕ) → IsPreparing allowed old new
    → items_from form input new ≡ items_from form input old
items_still {allowed} form old new input prepares = came_still (items_by form) old new input prepares

right_still : {allowed : Request → Type 0} (form : Form) (names : Option (List NameTree)) (first now : WorldView) (left : List Departure) (waiting : List ℕ) (old new : List Request)
    → IsPreparing allowed old new → IsRight form names first now left waiting old → IsRight form names first now left waiting new
right_still {allowed} form names first now left waiting old new prepares is =
    record {
      inputs = λ input. let come = is.inputs input in record {
        items = come.items;
        rest = come.rest;
        came_so = items_still form old new input prepares ∙ come.came_so;
        now_so = come.now_so;
      };
      gone_on = is.gone_on;
      put = is.put;
      said = is.said ∙ ap (λ (said : List ℕ). said ++ waiting) (sym prepares.said);
    }

streamed_so : {allowed : Request → Type 0} (options : StreamOptions) (old new : List Request) → IsPreparing allowed old new → IsStreamed options old → IsStreamed options new
streamed_so {allowed} options old new prepares (nothing none) = nothing (prepares.said ∙ none)
streamed_so {allowed} options old new prepares (something net first now of_net said) =
    something net first now (of_still options net first old new prepares.later of_net) (record {
      left = said.left;
      waiting = said.waiting;
      right = right_still (form_of options.binary) _ first now said.left said.waiting old new prepares said.right;
    })

pub streamed_still : {allowed : Request → Type 0} (options : StreamOptions) (old new : List Request) → IsPreparing allowed old new → ∥ IsStreamed options old ∥₁
    → ∥ IsStreamed options new ∥₁
streamed_still {allowed} options old new prepares is = ∥∥₁_map is (streamed_so options old new prepares)

sources_still : {allowed : Request → Type 0} (form : Form) (net : Net) (sources : List InputSource) (old new : List Request) → IsPreparing allowed old new
    → AreEndedSources form net sources old → AreEndedSources form net sources new
sources_still {allowed} form net sources old new prepares are = λ place one here.
    let is = are place one here in
    let well : ended_well form is.0 new ≡ ended_well form is.0 old =
    came_still (λ (came : List ℕ) (ended : Bool). if is_some (fault_by form came ended) then false else ended) old new is.0 prepares in
    (is.0, (is.1.0, prepares.later _ is.1.1), well ∙ is.2)

ended_so : {allowed : Request → Type 0} (options : StreamOptions) (old new : List Request) → IsPreparing allowed old new → HasEnded options old → HasEnded options new
ended_so {allowed} options old new prepares is =
    record {
      net = is.net;
      first = is.first;
      now = is.now;
      of_net = of_still options is.net is.first old new prepares.later is.of_net;
      sources = sources_still (form_of options.binary) is.net options.sources.items old new prepares is.sources;
      said = record {
        left = is.said.left;
        right = right_still (form_of options.binary) _ is.first is.now is.said.left [] old new prepares is.said.right;
        whole = record {
          inputs = λ input. is.said.whole.inputs input
              ∙ ap (λ (items : List ℤ). history_of is.first.inputs input ++ items) (sym (items_still (form_of options.binary) old new input prepares));
          said = is.said.whole.said ∙ sym prepares.said;
          all = is.said.whole.all;
          whole = is.said.whole.whole;
        };
      };
    }

pub ended_still : {allowed : Request → Type 0} (options : StreamOptions) (old new : List Request) → IsPreparing allowed old new → ∥ HasEnded options old ∥₁
    → ∥ HasEnded options new ∥₁
ended_still {allowed} options old new prepares is = ∥∥₁_map is (ended_so options old new prepares)

-- what holds where a run ends well holds of one that didn't end badly
pub ended_where_well : {T E P : Type 0} (result : Result T E) → OnOk result P → OnErr result ⊥ → P
ended_where_well {T} {E} {P} (Ok value) is well = is
ended_where_well {T} {E} {P} (Err fault) is well = absurd well

-- ---- what is asked

pub run_still : (options : StreamOptions) (old new : List Request) → IsPreparing (IsRunFor options) old new → IsAllRunFor options old
    → IsAllRunFor options new
run_still options old new prepares all = record { each = λ r had. either r (prepares.only r had) }
  where
    either : (r : Request) → Has r old ⊎ IsRunFor options r → IsRunFor options r
    either r (inl had) = all.each r had
    either r (inr is) = is

pub run_by_streams : (options : StreamOptions) (old new : List Request) → ∥ IsAskedOn old new ∥₁ → IsAllRunFor options old
    → ∥ IsAllRunFor options new ∥₁
run_by_streams options old new on all = ∥∥₁_map on (λ is. record { each = λ r had. either r (is.only r had) })
  where
    either : (r : Request) → Has r old ⊎ IsOfStreams r → IsRunFor options r
    either r (inl had) = all.each r had
    either r (inr is) = streams is

pub none_run : (options : StreamOptions) (e : List Request) → e ≡ [] → IsAllRunFor options e
none_run options e none = rw none (record { each = λ r had. absurd had })

pub told_then : (options : StreamOptions) (old new : List Request) → IsPreparing IsTelling old new → IsAllRunFor options old
    → IsAllAskedFor options new
told_then options old new prepares all = λ r had. either r (prepares.only r had)
  where
    either : (r : Request) → Has r old ⊎ IsTelling r → IsRunFor options r ⊎ IsTelling r
    either r (inl had) = inl (all.each r had)
    either r (inr is) = inr is

-- what is run for isn't told
isnt_told : (options : StreamOptions) (r : Request) → IsRunFor options r → IsTelling r → ⊥
isnt_told options r (reads_net is) told = absurd cc
isnt_told options r (reads_inputs path here is) told = absurd cc
isnt_told options r (opens is) told = absurd cc
isnt_told options r (streams (asked_by.took number answer is)) told = absurd cc
isnt_told options r (streams (asked_by.said bytes answer is)) told = absurd cc

pub untold_by : (options : StreamOptions) (e : List Request) → IsAllRunFor options e → IsUntold e
untold_by options e all = record { none = λ r had told. isnt_told options r (all.each r had) told }

pub untold_still : (options : StreamOptions) (e : List Request) → ∥ IsAllRunFor options e ∥₁ → IsUntold e
untold_still options e all =
    record { none = λ r had told. ∥∥₁_elim all (hlevel ⊥_prop) (λ run. (untold_by options e run).none r had told) }
