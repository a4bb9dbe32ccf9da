-- Checkpoints of small networks, worked out by hand: each row says what a definition comes to.
use Rattle.std.proofs.Common.{◌≡◌, ℕ, zero, suc, true, false, List, [], ◌∷◌, Option, Some, None, refl}
use Rattle.datagram.specs.declared.packet.Body.TheVariants as says
use Rattle.datagram.specs.declared.packet.Reason.TheVariants.{Busy, Behind, Recovering}
use Rattle.ckpt_codec.specs.Common.{Code, Network, Outside, Process, DecisionView, ImageView, RecordView, Receives}
use Rattle.ckpt_codec.specs.Common.{Sends, Tentative}
use Rattle.kahn_net.specs.Common.{Nothing}
use Rattle.recovery_line.specs.Nodes.{Awaited, By_took}
use Rattle.protocol.specs.Node.Answering.{Silent, CoveredBefore, TookBefore, TakesNow, Declines, answer_to_ask}
use Rattle.protocol.specs.Node.Answering.{kept_then}
use Rattle.protocol.specs.Node.Answering.{answer_packets}
use Rattle.protocol.specs.Node.Beginning.{live_begun, live_asks, may_start}
use Rattle.protocol.specs.Node.Collecting.{Joins, GivesUp, answer_to_took, joined_live, new_asks}
use Rattle.protocol.specs.Node.Collecting.{with_answer}
use Rattle.protocol.specs.Node.Needs.{needs_of}
use Rattle.protocol.specs.Node.Verdicts.{may_decide, decision_on, commit_packets, verdict_packets}
use Rattle.protocol.specs.Node.LiveView.{LiveView}
use Rattle.protocol.specs.Node.NodeView.{NodeView, ModeView, InDoubt, Runs}

-- ---- three nodes in a row: 0 puts on channel 1, from which 1 gets; 1 puts on channel 2, from which 2 gets

abbrev code_on : ℕ → Code
code_on node = record { node = node; vars = []; prelude = Nothing; body = None }

abbrev trio : Network
trio = record {
  channels = record { producer = Outside; consumer = Process 0 } ∷ record { producer = Process 0; consumer = Process 1 }
      ∷ record { producer = Process 1; consumer = Process 2 } ∷ record { producer = Process 2; consumer = Outside }
      ∷ [];
  codes = code_on 0 ∷ code_on 1 ∷ code_on 2 ∷ [];
}

-- an image of node 0, 1 or 2 that put, or got and put, so many items, of which the logs hold none
abbrev puts : ℕ → ℕ → ImageView
puts channel count =
    record {
      processes = [];
      ends =
          record { channel = channel; end = Sends (record { base = count; items = [] }) } ∷ [];
    }

abbrev gets_and_puts : ℕ → ℕ → ℕ → ℕ → ImageView
gets_and_puts from got to put = record {
  processes = [];
  ends = record { channel = from; end = Receives got }
      ∷ record { channel = to; end = Sends (record { base = put; items = [] }) } ∷ [];
}

abbrev kept_by : ℕ → List ℕ → List DecisionView → ImageView → Option Tentative → RecordView
kept_by node highest decisions permanent held =
    record { node = node; epoch = 0; highest = highest; decisions = decisions; permanent = permanent; tentative = held }

abbrev running : ImageView → ModeView
running image =
    Runs (record { current = image; out = None; last = None; inboxes = []; outboxes = []; live = None })

abbrev holding : ℕ → ℕ → ImageView → Option Tentative
holding x n image = Some (record { initiator = x; number = n; image = image })

-- ---- node 1 begins: it has got three items, and asks node 0 for them

abbrev begins : LiveView
begins = live_begun trio 1 (kept_by 1 (0 ∷ 0 ∷ 0 ∷ []) [] (gets_and_puts 1 0 2 0) None) (gets_and_puts 1 3 2 3)

asks_one : begins ≡ record {
  number = 1;
  questions = None ∷ Some (record { count = 3; answer = Awaited }) ∷ None ∷ None ∷ [];
  takers = [];
}
asks_one = refl

ask_goes : live_asks trio 1 (Some begins) ≡ record { from = 1; to = 0; body = says.Ask 1 1 3 } ∷ []
ask_goes = refl

-- where nothing was got, nobody is asked
asks_nobody : needs_of trio 1 (gets_and_puts 1 3 2 0) (gets_and_puts 1 3 2 3) ≡ []
asks_nobody = refl

-- ---- node 0 is asked

-- its current image has put three, its permanent one none: it takes part
takes_part : answer_to_ask 1 1 1 3 (kept_by 0 (0 ∷ 0 ∷ 0 ∷ []) [] (puts 1 0) None) (running (puts 1 3)) ≡ TakesNow
takes_part = refl

took_record : kept_then 1 1 TakesNow (running (puts 1 3)) (kept_by 0 (0 ∷ 0 ∷ 0 ∷ []) [] (puts 1 0) None)
    ≡ kept_by 0 (0 ∷ 1 ∷ 0 ∷ []) [] (puts 1 0) (holding 1 1 (puts 1 3))
took_record = refl

took_goes : answer_packets trio 0 1 1 1 3 (kept_by 0 (0 ∷ 1 ∷ 0 ∷ []) [] (puts 1 0) (holding 1 1 (puts 1 3))) TakesNow
    ≡ record { from = 0; to = 1; body = says.Took 1 1 3 [] } ∷ []
took_goes = refl

-- asked again, it took part before
again : answer_to_ask 1 1 1 3 (kept_by 0 (0 ∷ 1 ∷ 0 ∷ []) [] (puts 1 0) (holding 1 1 (puts 1 3))) (running (puts 1 3))
    ≡ TookBefore
again = refl

-- asked for more than its current image put, it declines; asked for no more than its permanent one, it needn't take
-- part
too_much : answer_to_ask 1 1 1 4 (kept_by 0 (0 ∷ 0 ∷ 0 ∷ []) [] (puts 1 0) None) (running (puts 1 3)) ≡ Declines Behind
too_much = refl

covered : answer_to_ask 1 1 1 3 (kept_by 0 (0 ∷ 0 ∷ 0 ∷ []) [] (puts 1 3) None) (running (puts 1 5)) ≡ CoveredBefore
covered = refl

-- a question of number 3 comes again after 3 was settled: no answer
settled_before : answer_to_ask 1 3 1 9 (kept_by 0 (0 ∷ 3 ∷ 0 ∷ []) [] (puts 1 3) None) (running (puts 1 9)) ≡ Silent
settled_before = refl

-- node 1 holds (0, 4) and is asked by node 2: for more than it keeps for good it is busy, or coming back; else it is
-- covered
busy : answer_to_ask 2 1 2 5
    (kept_by 1 (4 ∷ 0 ∷ 0 ∷ []) [] (gets_and_puts 1 0 2 4) (holding 0 4 (gets_and_puts 1 3 2 6)))
    (running (gets_and_puts 1 3 2 6)) ≡ Declines Busy
busy = refl

busy_covered : answer_to_ask 2 1 2 4
    (kept_by 1 (4 ∷ 0 ∷ 0 ∷ []) [] (gets_and_puts 1 0 2 4) (holding 0 4 (gets_and_puts 1 3 2 6)))
    (running (gets_and_puts 1 3 2 6)) ≡ CoveredBefore
busy_covered = refl

coming_back : answer_to_ask 2 1 2 5
    (kept_by 1 (4 ∷ 0 ∷ 0 ∷ []) [] (gets_and_puts 1 0 2 4) (holding 0 4 (gets_and_puts 1 3 2 6))) InDoubt
    ≡ Declines Recovering
coming_back = refl

-- who still holds (1, 1) and is asked for (1, 2) is busy
still_holds : answer_to_ask 1 2 1 5 (kept_by 0 (0 ∷ 1 ∷ 0 ∷ []) [] (puts 1 0) (holding 1 1 (puts 1 3)))
    (running (puts 1 5))
    ≡ Declines Busy
still_holds = refl

-- ---- a taker's needs: node 2 asks node 1, which has got of node 0

abbrev two_begins : LiveView
two_begins = record {
  number = 1;
  questions = None ∷ None ∷ Some (record { count = 2; answer = Awaited }) ∷ None ∷ [];
  takers = [];
}

abbrev two_keeps : RecordView
two_keeps = kept_by 2 (0 ∷ 0 ∷ 1 ∷ []) [] (gets_and_puts 2 0 3 0) (holding 2 1 (gets_and_puts 2 2 3 2))

joins : answer_to_took trio 2 1 2 (record { channel = 1; count = 2 } ∷ []) two_keeps (Some two_begins) ≡ Joins
joins = refl

third_asked : joined_live trio 2 1 2 (record { channel = 1; count = 2 } ∷ []) two_begins ≡ record {
  number = 1;
  questions =
      None ∷ Some (record { count = 2; answer = Awaited }) ∷ Some (record { count = 2; answer = By_took }) ∷ None
      ∷ [];
  takers = 1 ∷ [];
}
third_asked = refl

third_ask_goes : new_asks trio 2 1 (record { channel = 1; count = 2 } ∷ []) (with_answer By_took 2 two_begins.questions)
    ≡ record { from = 2; to = 0; body = says.Ask 1 1 2 } ∷ []
third_ask_goes = refl

-- the same again changes nothing, and asks nobody
no_more_asks : new_asks trio 2 1 (record { channel = 1; count = 2 } ∷ [])
    (None ∷ Some (record { count = 2; answer = Awaited }) ∷ Some (record { count = 2; answer = By_took }) ∷ None ∷ [])
    ≡ []
no_more_asks = refl

-- a need on the own channel that is too great ends it, where node 2 puts on a channel from which node 1 gets
abbrev ring : Network
ring = record {
  channels =
      record { producer = Process 1; consumer = Process 2 } ∷ record { producer = Process 2; consumer = Process 1 }
      ∷ [];
  codes = code_on 0 ∷ code_on 1 ∷ code_on 2 ∷ [];
}

gives_up : answer_to_took ring 2 1 0 (record { channel = 1; count = 3 } ∷ [])
    (kept_by 2 (0 ∷ 0 ∷ 1 ∷ []) [] (gets_and_puts 0 0 1 0) (holding 2 1 (gets_and_puts 0 2 1 2)))
    (Some (record {
      number = 1;
      questions = Some (record { count = 2; answer = Awaited }) ∷ None ∷ [];
      takers = [];
    })) ≡ GivesUp
gives_up = refl

-- ---- a decision

abbrev all_came : LiveView
all_came = record {
  number = 1;
  questions =
      None ∷ Some (record { count = 2; answer = By_took }) ∷ Some (record { count = 2; answer = By_took }) ∷ None
      ∷ [];
  takers = 1 ∷ 0 ∷ [];
}

not_yet : may_decide 2 two_keeps (Some two_begins) ≡ false
not_yet = refl

ready : may_decide 2 two_keeps (Some all_came) ≡ true
ready = refl

-- it names who took part, ascending, and so they are told
decides : decision_on all_came two_keeps
    ≡ kept_by 2 (0 ∷ 0 ∷ 1 ∷ []) (record { number = 1; participants = 0 ∷ 1 ∷ [] } ∷ []) (gets_and_puts 2 2 3 2) None
decides = refl

told : commit_packets 2 3 (Some all_came)
    ≡ record { from = 2; to = 0; body = says.Commit 1 } ∷ record { from = 2; to = 1; body = says.Commit 1 } ∷ []
told = refl

-- with nobody who took part there is no decision
alone : decision_on (record { number = 1; questions = None ∷ None ∷ None ∷ None ∷ []; takers = [] }) two_keeps
    ≡ kept_by 2 (0 ∷ 0 ∷ 1 ∷ []) [] (gets_and_puts 2 2 3 2) None
alone = refl

-- ---- a question for verdict 3

abbrev decided_three : RecordView
decided_three =
    kept_by 2 (0 ∷ 0 ∷ 3 ∷ []) (record { number = 3; participants = 0 ∷ [] } ∷ []) (gets_and_puts 2 2 3 2) None

committed : verdict_packets 2 0 3 decided_three None ≡ record { from = 2; to = 0; body = says.Commit 3 } ∷ []
committed = refl

ended : verdict_packets 2 0 3 (kept_by 2 (0 ∷ 0 ∷ 3 ∷ []) [] (gets_and_puts 2 2 3 2) None) None
    ≡ record { from = 2; to = 0; body = says.Ended 3 } ∷ []
ended = refl

live_yet : verdict_packets 2 0 3 (kept_by 2 (0 ∷ 0 ∷ 3 ∷ []) [] (gets_and_puts 2 2 3 2) None)
    (Some (record { number = 3; questions = []; takers = [] })) ≡ []
live_yet = refl

unused : verdict_packets 2 0 4 (kept_by 2 (0 ∷ 0 ∷ 3 ∷ []) [] (gets_and_puts 2 2 3 2) None) None ≡ []
unused = refl

-- ---- unsettled decisions

abbrev decisions : ℕ → List DecisionView
decisions zero = []
decisions (suc n) = record { number = suc n; participants = 0 ∷ [] } ∷ decisions n

abbrev beginner : List DecisionView → NodeView
beginner unsettled = record {
  kept = kept_by 1 (0 ∷ 8 ∷ 0 ∷ []) unsettled (gets_and_puts 1 0 2 0) None;
  version = 0;
  restart = 0;
  armed = [];
  mode = running (gets_and_puts 1 3 2 3);
}

-- with one it begins, and with as many as a record has room for it doesn't
one_unsettled : may_start (beginner (decisions 1)) ≡ true
one_unsettled = refl

eight_unsettled : may_start (beginner (decisions 8)) ≡ false
eight_unsettled = refl
