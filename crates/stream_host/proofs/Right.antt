-- What streams leave on a host is right.
use Rattle.std.proofs.Common.{arith, ◌≡◌, ◌∙◌, ℕ, zero, suc, ℤ, List, [], ◌++◌, Option, refl, sym, ap, ap₂, append-nil}
use Rattle.std.specs.Prelude.{Bool, true, false, IsTrue, Some, None, length, replicate, slice_get, slice_index_or, IfErr, OnOk, Result, Ok, Err}
use Rattle.growing.specs.WhateverComes.{HasGoneOn}
use Rattle.host.specs.Requests.{Request}
use Rattle.host.specs.Sources.{said_bytes}
use Rattle.host_ports.specs.Ports.{ended_well, has_source, HaveTheSame, is_at_end, IsPortFault, items_from}
use Rattle.host_ports.specs.declared.port.Port.{Port}
use Rattle.host_ports.specs.declared.fault.PortFault.{PortFault}
use Rattle.host_ports.specs.Speaking.{departures_text}
use Rattle.host_ports.specs.Forms.{items_by}
use Rattle.host_ports.specs.declared.form.Form.{Form}
use Rattle.host_ports.specs.declared.form.Form.TheVariants.{Decimal, Binary}
use Rattle.kahn_net.specs.Laws.Prefixes.{prefix_nil}
use Rattle.kahn_net.specs.Streams.{history_of}
use Rattle.net_text.specs.Names.{NameTree}
use Rattle.outside.specs.declared.departure.Departure.{Departure}
use Rattle.protocol.specs.World.Common.{released_of, WorldView}
use Rattle.protocol.specs.World.Quiet.{AreWhole}
use Rattle.world.specs.Feeding.{is_input}
use Rattle.stream_run.specs.Linked.{AreAllPut, AreEnded, AreFedAll, AreFedInPart, IsPutAsTaken, IsPutInPart}
use Rattle.stream_run.specs.Stops.{IsStop}
use Rattle.stream_run.specs.declared.stopped.Stopped.{Stopped}
use Rattle.stream_run.specs.declared.stopped.Stopped.TheVariants.{NoMemory, Full, Outside}
use Rattle.stream_host.specs.Streams.{HasSaidAll, IsComeBy, IsFresh, IsRight, IsStreamStop, IsUntaken}

-- of a source of which nothing was taken no item came
none_came : (form : Form) (e : List Request) (input : ℕ) → IsUntaken e input → items_from form input e ≡ []
none_came form e input untaken = ap₂ (items_by form) untaken.0 untaken.1 ∙ nothing form
  where
    nothing : (form : Form) → items_by form [] false ≡ []
    nothing Decimal = refl
    nothing Binary = refl

come_by : (start form : Form) (e now : List Request) (first world : WorldView) → IsFresh e
    → AreFedInPart (λ input. items_from start input e) (λ input. items_from form input now) first world → (input : ℕ)
    → IsComeBy (history_of first.inputs input) (history_of world.inputs input) (items_from form input now)
come_by start form e now first world fresh fed input =
    let is = fed input in
    let none = none_came start e input (fresh input) in
    record {
      items = is.items;
      rest = is.rest;
      came_so = is.came ∙ ap (λ (had : List ℤ). had ++ is.items ++ is.rest) none;
      now_so = is.fed_since;
    }

pub is_right : (start form : Form) (names : Option (List NameTree)) (first world : WorldView) (left : List Departure) (waiting : List ℕ)
    (e now : List Request) → IsFresh e → HasGoneOn first world
    → AreFedInPart (λ input. items_from start input e) (λ input. items_from form input now) first world → IsPutInPart left world
    → departures_text form names left ≡ said_bytes now ++ waiting → IsRight form names first world left waiting now
is_right start form names first world left waiting e now fresh gone fed put said =
    record { inputs = come_by start form e now first world fresh fed; gone_on = gone; put = put; said = said }

all_came : (start form : Form) (e now : List Request) (first world : WorldView) → IsFresh e
    → AreFedAll (λ input. items_from start input e) (λ input. items_from form input now) first world → (input : ℕ)
    → history_of world.inputs input ≡ history_of first.inputs input ++ items_from form input now
all_came start form e now first world fresh fed input =
    let is = fed input in
    let none = none_came start e input (fresh input) in
    is.fed_since ∙ ap (λ (items : List ℤ). history_of first.inputs input ++ items)
    (sym (is.came ∙ ap (λ (had : List ℤ). had ++ is.items) none))

pub is_all : (start form : Form) (names : Option (List NameTree)) (first world : WorldView) (left : List Departure) (e now : List Request) → IsFresh e
    → HasGoneOn first world → AreFedAll (λ input. items_from start input e) (λ input. items_from form input now) first world
    → AreFedInPart (λ input. items_from start input e) (λ input. items_from form input now) first world → IsPutInPart left world
    → AreAllPut left world → AreWhole world → departures_text form names left ≡ said_bytes now → HasSaidAll form names first world now
is_all start form names first world left e now fresh gone fed part put all whole said =
    record {
      left = left;
      right = is_right start form names first world left [] e now fresh gone part put (said ∙ sym (append-nil (said_bytes now)));
      whole = record { inputs = all_came start form e now first world fresh fed; said = said; all = all; whole = whole };
    }

-- ---- why they end early

stop_so : (start form : Form) (e now : List Request) (first : WorldView) (why : Stopped PortFault) → IsFresh e
    → IsStop (IsPortFault form now) (λ input. items_from start input e) (λ input. items_from form input now) first why → IsStreamStop form first now why
stop_so start form e now first NoMemory fresh is = tt
stop_so start form e now first Full fresh is =
    let none : length (items_from start is.input e) ≡ 0 = ap length (none_came start e is.input (fresh is.input)) in
    let many = is.many in
    record { input = is.input; here = is.here; many = omega (arith, none, many) }
stop_so start form e now first (Outside fault) fresh is = is

pub stops_so : {T : Type 0} (start form : Form) (e now : List Request) (first : WorldView) (result : Result T (Stopped PortFault)) → IsFresh e
    → IfErr result (IsStop (IsPortFault form now) (λ input. items_from start input e) (λ input. items_from form input now) first)
    → IfErr result (IsStreamStop form first now)
stops_so {T} start form e now first (Ok value) fresh is = tt
stops_so {T} start form e now first (Err why) fresh is = stop_so start form e now first why fresh is

-- ---- the ends of the sources

ended_where : {S : Type 0} (slot : Option (Option (Port S))) (ended : Bool) → has_source slot ≡ true → is_at_end slot ended ≡ true → ended ≡ true
ended_where {S} None ended has is = absurd cc
ended_where {S} (Some None) ended has is = absurd cc
ended_where {S} (Some (Some port)) ended has is = is

-- each input that had a source in the beginning has one in the end, and that is at its end
pub all_ended : {S T E : Type 0} (form : Form) (given ports : List (Option (Port S))) {first : List (Option (Port S))} (old new : WorldView) (e : List Request)
    (result : Result T E) → given ≡ first → HaveTheSame given ports → new.net ≡ old.net
    → OnOk result (AreEnded new.net (λ input. is_at_end (slice_get ports input) (ended_well form input e)))
    → OnOk result ((input : ℕ) → IsTrue (is_input old.net input) → has_source (slice_get first input) ≡ true → ended_well form input e ≡ true)
all_ended {S} {T} {E} form given ports {first} old new e (Ok value) is same net ended = λ input here has.
    let had : has_source (slice_get given input) ≡ true = rw is has in
    let here_now : IsTrue (is_input new.net input) = rw net here in
    ended_where (slice_get ports input) (ended_well form input e) (same input ∙ had) (ended input here_now)
all_ended {S} {T} {E} form given ports {first} old new e (Err fault) is same net ended = tt

-- ---- at the beginning

same_at : (count output item : ℕ) → slice_index_or (replicate count item) output item ≡ item
same_at zero output item = refl
same_at (suc count) zero item = refl
same_at (suc count) (suc output) item = same_at count output item

-- nothing was put out, and nothing was taken
pub none_put : (taken : List ℕ) (count : ℕ) (world : WorldView) → taken ≡ replicate count 0
    → IsPutAsTaken [] (λ output. slice_index_or taken output 0) world
none_put taken count world none output =
    record {
      part = prefix_nil [] (released_of output world.stations) refl;
      count = ap (λ (all : List ℕ). slice_index_or all output 0) none ∙ same_at count output 0;
    }

-- what follows from four things that hold where a run ends well holds there
pub so_where_well : {T E A B C D P : Type 0} (result : Result T E) → OnOk result A → OnOk result B → OnOk result C → OnOk result D
    → (A → B → C → D → P) → OnOk result P
so_where_well {T} {E} {A} {B} {C} {D} {P} (Ok value) a b c d so = so a b c d
so_where_well {T} {E} {A} {B} {C} {D} {P} (Err fault) a b c d so = tt
