-- What a network at work has said on its host, and from which items.
use Rattle.std.specs.Prelude.{◌≡◌, ◌++◌, ℕ, ℤ, false, List, [], Option}
use Rattle.growing.specs.WhateverComes.{HasGoneOn}
use Rattle.host.specs.Requests.{Request}
use Rattle.host.specs.Sources.{has_ended, said_bytes, taken_from}
use Rattle.host_ports.specs.Ports.{IsPortFault, items_from}
use Rattle.host_ports.specs.declared.fault.PortFault.{PortFault}
use Rattle.host_ports.specs.declared.form.Form.{Form}
use Rattle.host_ports.specs.Speaking.{departures_text}
use Rattle.kahn_net.specs.Streams.{history_of, IsPrefix}
use Rattle.net_text.specs.Names.{NameTree}
use Rattle.outside.specs.Departures.{items_by}
use Rattle.outside.specs.declared.departure.Departure.{Departure}
use Rattle.protocol.specs.World.Common.{released_of, WorldView}
use Rattle.protocol.specs.World.Quiet.{AreWhole}
use Rattle.stream_run.specs.Linked.{AreAllPut}
use Rattle.stream_run.specs.Stops.{IsStop}
use Rattle.stream_run.specs.declared.stopped.Stopped.{Stopped}

-- nothing came by an input's source
abbrev pub IsUntaken : List Request → ℕ → Type 0
IsUntaken e input = (taken_from input e ≡ []) × (has_ended input e ≡ false)

-- nothing came by any
abbrev pub IsFresh : List Request → Type 0
IsFresh e = (input : ℕ) → IsUntaken e input

-- Of the items that came by an input's source these stand behind the first ones now, and these don't yet.
pub record IsComeBy (first now came : List ℤ) : Type 0 where
  pub items : List ℤ
  pub rest : List ℤ
  pub came_so : came ≡ items ++ rest
  pub now_so : now ≡ first ++ items

-- What was said is right. It is the lines of items, some of which may wait to be said still. Those of each output are a beginning of what has left
-- there, which is right on the inputs so far: their first items, and behind them what came by their sources.
pub record IsRight (form : Form) (names : Option (List NameTree)) (first now : WorldView) (left : List Departure) (waiting : List ℕ) (e : List Request)
    : Type 0
  where
    pub inputs : (input : ℕ) → IsComeBy (history_of first.inputs input) (history_of now.inputs input) (items_from form input e)
    pub gone_on : HasGoneOn first now
    pub put : (output : ℕ) → IsPrefix (items_by output left) (released_of output now.stations)
    pub said : departures_text form names left ≡ said_bytes e ++ waiting

-- All came to its end, and what was said is all: everything that came is taken in, nothing waits to be said, and what was said of each output is
-- its channel's whole stream in the least solution.
pub record IsWhole (form : Form) (names : Option (List NameTree)) (first now : WorldView) (left : List Departure) (e : List Request) : Type 0 where
  pub inputs : (input : ℕ) → history_of now.inputs input ≡ history_of first.inputs input ++ items_from form input e
  pub said : departures_text form names left ≡ said_bytes e
  pub all : AreAllPut left now
  pub whole : AreWhole now

-- something was said, and it is right
pub record HasSaid (form : Form) (names : Option (List NameTree)) (first now : WorldView) (e : List Request) : Type 0 where
  pub left : List Departure
  pub waiting : List ℕ
  pub right : IsRight form names first now left waiting e

-- and it is all
pub record HasSaidAll (form : Form) (names : Option (List NameTree)) (first now : WorldView) (e : List Request) : Type 0 where
  pub left : List Departure
  pub right : IsRight form names first now left [] e
  pub whole : IsWhole form names first now left e

-- Why the streams end early: memory is missing; an input has more items, with those that came by its source, than a count goes; or a source or standard
-- output failed, or what came is no item, as the log has it.
abbrev pub IsStreamStop : Form → WorldView → List Request → Stopped PortFault → Type 0
IsStreamStop form first e why = IsStop (IsPortFault form e) (λ input. []) (λ input. items_from form input e) first why
