-- What is known of each deed: its plan is sound, a node that is down sends nothing by it, and nothing that comes by
-- it is dropped. A further deed has a case in each of the three laws that go by deeds, at the end of this file.
use Rattle.std.proofs.Common.{◌≡◌, ℕ, Bool, true, false, ℤ, List, [], map, Option, Some, None}
use Rattle.std.proofs.Common.{option_map, refl, ap, arith}
use Rattle.std.specs.Prelude.{nat_lt, not}
use Rattle.std.proofs.Math.Logic.{∥∥₁_elim}
use Rattle.std.proofs.lemmas.Bool.{eq-eqb, ltb-true}
use Rattle.std.proofs.lemmas.List.Elements.{All-nil}
use mathlib.Core.HLevel.{⊥_prop}
use Rattle.datagram.proofs.Exactness.{whole_again}
use Rattle.datagram.specs.Reading.{whole_at}
use Rattle.protocol.specs.Node.Common.{Packet, Network, MAX_COUNT, highest_seen, with_epoch, names_right, round_later}
use Rattle.protocol.specs.Node.Common.{with_armed, live_in, may_start, start_prospect, grant_prospect, node_job}
use Rattle.protocol.specs.Node.Common.{packet_for, deliver_prospect, hear_prospect, JobView, crashed, is_down, ModeView}
use Rattle.protocol.specs.Node.Common.{NodeView, Planned, Prospect, becoming, packets_by, unless_spent}
use Rattle.protocol.specs.Node.Common.{recover_prospect, restored, restored_mode, turn_packets, decide_prospect}
use Rattle.protocol.specs.Node.Common.{may_decide}
use Rattle.protocol.specs.World.Common.{is_due, Flight, ByNode, back_reply, delivery_reply, grant_reply, ReplyView}
use Rattle.protocol.specs.World.Common.{StationView, Setting, deliver_plan, due_bytes, flight_at, plan_of, sending_of}
use Rattle.protocol.specs.World.Common.{BytesAreSound, TrafficIsSound, IsSoundSetting, IsSoundStation}
use Rattle.protocol.specs.Node.Delivering.{delivery_of, if_right}
use Rattle.protocol.specs.Node.Recovering.{crash_prospect}
use Rattle.protocol.specs.declared.outcome.Outcome.{Outcome}
use Rattle.protocol.specs.declared.event.Deed.{Deed}
use Rattle.protocol.specs.declared.event.Deed.TheVariants as event
use Rattle.protocol.specs.World.InFlight.{OnlyNodesThatAreUpSend}
use Rattle.protocol.specs.declared.reply.Reply.TheVariants as reply
use Rattle.protocol.specs.World.Steps.{bytes_when}
use Rattle.protocol.specs.World.Traffic.{SpellsSound}
use Rattle.protocol_laws.specs.World.HeardLaws.{hear_keeps, named_here, right_is, whole_sound}
use Rattle.protocol_laws.specs.World.MoveLaws.{decide_keeps, start_keeps}
use Rattle.protocol_laws.specs.World.PlanLaws.{IsSoundProspect, ProspectKeeps, back_sound, down_keeps, grant_sound}
use Rattle.protocol_laws.specs.World.PlanLaws.{keeps_if_due, keeps_still, moved_keeps, sound_becoming, sound_if_due}
use Rattle.protocol_laws.specs.World.PlanLaws.{sound_unless_spent, whole_plan, whole_prospect}
use Rattle.protocol_laws.specs.World.SendLaws.{IsSendable}
use Rattle.protocol_laws.specs.World.TellLaws.{begins_said, decides_said, hears_said, turn_sendable}
use Rattle.protocol_laws.specs.World.TrafficLaws.{arrives_sound}

-- ---- what is sent

-- where nothing is to be sent nothing is
pub becoming_sends : (node : NodeView) (came : Outcome) → packets_by (becoming node) came ≡ []
becoming_sends node came = grind arith

pub grant_sends : (job : Option JobView) (node : NodeView) (came : Outcome)
    → packets_by (grant_prospect job node) came ≡ []
grant_sends job node came = grind arith

pub crash_sends : (restart : ℕ) (node : NodeView) (came : Outcome)
    → packets_by (crash_prospect restart node) came ≡ []
crash_sends restart node came = grind arith

pub recover_sends : (net : Network) (home : ℕ) (node : NodeView) (came : Outcome)
    → packets_by (recover_prospect net home node) came ≡ []
recover_sends net home node came = grind arith

-- a node that is down hears nothing, and neither begins nor decides
down_start : (node : NodeView) → is_down node.mode ≡ true → may_start node ≡ false
down_start node down = grind arith

down_decides : (home : ℕ) (node : NodeView) → is_down node.mode ≡ true
    → may_decide home node.kept (live_in node.mode) ≡ false
down_decides home node down = grind arith

down_hears : (net : Network) (place : ℕ) (bytes : Option (List ℕ)) (station : StationView) (came : Outcome)
    → is_down station.node.mode ≡ true → packets_by (deliver_plan net place bytes station).prospect came ≡ []
down_hears net place None station came down = refl
down_hears net place (Some bytes) station came down = rw down refl

-- ---- what is dropped

-- a packet was dropped
abbrev pub is_dropped : ReplyView → Bool
is_dropped reply.Dropped = true
is_dropped answer = false

grant_is : (job : Option JobView) → is_dropped (grant_reply job) ≡ false
grant_is job = grind arith

back_is : (mode : ModeView) → is_dropped (back_reply mode) ≡ false
back_is mode = grind arith

-- bytes that are sound spell a packet for the node
right_now : (net : Network) (home : ℕ) (packet : Packet) → packet.to ≡ home → names_right net packet ≡ true
    → if_right net home (Some packet) ≡ Some packet
right_now net home packet here names = rw (eq-eqb packet.to home here, names) refl

spells_one : (net : Network) (inputs : List (List ℤ)) (home : ℕ) (bytes : List ℕ) → SpellsSound net inputs home bytes
    → packet_for net home bytes ≡ None → ⊥
spells_one net inputs home bytes says none =
    let one = right_now net home says.packet says.here says.names in
    let text = whole_again bytes says.packet says.text in
    cc

heard_is : (found : Option Packet) → (found ≡ None → ⊥) → is_dropped (delivery_reply (delivery_of false found)) ≡ false
heard_is found some = grind arith

module _ (setting : Setting) (flying : TrafficIsSound setting.net setting.inputs setting.traffic) where
  came_is : (k place : ℕ) (old : StationView) → old.number ≡ k → (flight : Option Flight)
      → flight_at setting k place ≡ flight
      → is_dropped (deliver_plan setting.net place (due_bytes setting.round flight) old).answer ≡ false
  came_is k place old here None is = refl
  came_is k place old here (Some flight) is =
      let sound = arrives_sound setting.net setting.inputs setting.traffic k place flight.packet flying
      (ap (option_map (λ (f : Flight). f.packet)) is) in
      let heard = heard_is (packet_for setting.net old.number flight.packet) (λ none. ∥∥₁_elim sound ⊥_prop (λ says.
      spells_one setting.net setting.inputs old.number flight.packet (rw (← here) at says) none)) in
      grind (arith, heard)

-- ---- a packet that comes is sound

module _ (setting : Setting) (sure : IsSoundSetting setting) (old : StationView) (sound : IsSoundStation setting old)
  where
    -- ---- what it hears

    idle_sound : IsSoundProspect setting.net setting.inputs old (becoming old.node)
    idle_sound =
        sound_becoming setting.net setting.inputs old.node old
        (moved_keeps setting.net setting.inputs old.node old.failures old.turns old sound.inv.kept sound.inv.runs) refl

    told_sound : (bytes : List ℕ) (to : ℕ) → BytesAreSound setting.net setting.inputs to bytes
        → (packet : Option Packet) → packet_for setting.net old.number bytes ≡ packet
        → IsSoundProspect setting.net setting.inputs old (deliver_prospect setting.net old.number packet old.node)
    told_sound bytes to says None is =
        sound_if_due setting.net setting.inputs old (not (is_down old.node.mode)) (becoming old.node)
        (λ up. idle_sound)
    told_sound bytes to says (Some packet) is =
        let right = right_is setting.net old.number (whole_at bytes) packet is in
        let named = named_here setting.net old.number bytes packet is in
        sound_if_due setting.net setting.inputs old (not (is_down old.node.mode))
        (hear_prospect setting.net old.number packet.from packet.body old.node)
        (λ up. whole_prospect setting.net setting.inputs old.number old
        (hear_prospect setting.net old.number packet.from packet.body old.node)
        (hear_keeps setting.net setting.inputs sure.valid sure.fits old sound.inv sound.named
        packet.from packet.body (whole_sound setting.net setting.inputs packet to bytes says right.0)
        (rw named.0 at named.1))
        (hears_said setting.net setting.inputs sure.valid old sound.inv sound.named sound.below sound.joined
        bytes to says packet is))

    came_sound : (k place : ℕ) (flight : Option Flight) → flight_at setting k place ≡ flight
        → IsSoundProspect setting.net setting.inputs old
        (deliver_plan setting.net place (due_bytes setting.round flight) old).prospect
    came_sound k place None is = tt
    came_sound k place (Some flight) is =
        elim (is_due setting.round flight) as (λ due. IsSoundProspect setting.net setting.inputs old
        (deliver_plan setting.net place (bytes_when due flight.packet) old).prospect) [
          | false ↦ tt
          | true ↦ told_sound flight.packet k
              (arrives_sound setting.net setting.inputs setting.traffic k place flight.packet sure.traffic
              (ap (option_map (λ (f : Flight). f.packet)) is)) (packet_for setting.net old.number flight.packet) refl
        ]

    -- ---- it begins, and decides

    unless_spent_keeps : (less : Bool) (prospect : Prospect) → ProspectKeeps setting.net setting.inputs old prospect
        → ProspectKeeps setting.net setting.inputs old (unless_spent false less prospect)
    unless_spent_keeps true prospect keeps = keeps
    unless_spent_keeps false prospect keeps = tt

    begins_sound : IsSoundProspect setting.net setting.inputs old (start_prospect setting.net old.number old.node)
    begins_sound =
        whole_prospect setting.net setting.inputs old.number old (start_prospect setting.net old.number old.node)
        (keeps_if_due setting.net setting.inputs old (may_start old.node) _
        (λ due. unless_spent_keeps (nat_lt (highest_seen old.number old.node.kept) MAX_COUNT) _
        (start_keeps setting.net setting.inputs old sound.inv sure.valid due _ [])))
        (begins_said setting.net setting.inputs sure.valid old sound.inv sound.named sound.below sound.joined)

    decides_sound : IsSoundProspect setting.net setting.inputs old (decide_prospect old.number old.node)
    decides_sound =
        whole_prospect setting.net setting.inputs old.number old (decide_prospect old.number old.node)
        (keeps_if_due setting.net setting.inputs old (may_decide old.number old.node.kept (live_in old.node.mode)) _
        (λ due. decide_keeps setting.net setting.inputs old sound.inv sound.joined due _ []))
        (decides_said setting.net setting.inputs sure.valid old sound.inv sound.named sound.below sound.joined)

    -- ---- what it says in its turn

    tells_sound : IsSoundProspect setting.net setting.inputs old (plan_of setting old.number event.Send old).prospect
    tells_sound =
        sound_if_due setting.net setting.inputs old (not (is_down old.node.mode)) _
        (λ up. whole_plan setting.net setting.inputs old _
        (keeps_still setting.net setting.inputs old.node
        (turn_packets setting.net old.number old.node.kept old.node.mode) [] old
        (moved_keeps setting.net setting.inputs old.node old.failures old.turns old sound.inv.kept sound.inv.runs)
        refl)
        (turn_sendable setting.net setting.inputs sure.valid old sound.inv sound.named sound.below sound.joined)
        (All-nil (IsSendable setting.net setting.inputs)))

    -- ---- by deeds

    pub deed_sound : (k : ℕ) (deed : Deed)
        → IsSoundProspect setting.net setting.inputs old (plan_of setting k deed old).prospect
    deed_sound k (event.Deliver place) = came_sound k place (flight_at setting k place) refl
    deed_sound k event.Grant = grant_sound setting.net setting.inputs setting.rooms old sound.inv
    deed_sound k event.Send = tells_sound
    deed_sound k event.Start = begins_sound
    deed_sound k event.Decide = decides_sound
    deed_sound k (event.Crash fill rounds) =
        let down = crashed (round_later setting.round rounds) old.node in
        sound_if_due setting.net setting.inputs old (not (is_down old.node.mode)) (becoming down)
        (λ up. sound_becoming setting.net setting.inputs down old
        (down_keeps setting.net setting.inputs (round_later setting.round rounds) old.node old.failures old.turns old
        sound.inv.kept) refl)
    deed_sound k event.Recover =
        sound_if_due setting.net setting.inputs old (is_down old.node.mode) _
        (λ down. sound_unless_spent setting.net setting.inputs old true _
        (Planned (record {
          node = restored setting.net old.number old.node;
          puts = true;
          grows = false;
          packets = [];
          refused = [];
        })) (λ less. back_sound setting.net setting.inputs old sound.named
        (ltb-true old.node.kept.epoch MAX_COUNT less) sound.inv))
    deed_sound k (event.Arm fault rounds) =
        sound_becoming setting.net setting.inputs (with_armed fault.call rounds old.node) old
        (moved_keeps setting.net setting.inputs (with_armed fault.call rounds old.node) old.failures old.turns old
        sound.inv.kept sound.inv.runs) refl
    deed_sound k event.Idle = idle_sound

deed_sends : (setting : Setting) (k : ℕ) (deed : Deed) (station : StationView) (came : Outcome)
    → is_down station.node.mode ≡ true → packets_by (plan_of setting k deed station).prospect came ≡ []
deed_sends setting k (event.Deliver place) station came down =
    down_hears setting.net place (due_bytes setting.round (flight_at setting k place)) station came down
deed_sends setting k event.Grant station came down =
    grant_sends (node_job setting.net setting.inputs setting.rooms station.node) station.node came
deed_sends setting k event.Send station came down = rw down refl
deed_sends setting k event.Start station came down = rw (down_start station.node down) refl
deed_sends setting k event.Decide station came down = rw (down_decides station.number station.node down) refl
deed_sends setting k (event.Crash fill rounds) station came down =
    crash_sends (round_later setting.round rounds) station.node came
deed_sends setting k event.Recover station came down = recover_sends setting.net station.number station.node came
deed_sends setting k (event.Arm fault rounds) station came down =
    becoming_sends (with_armed fault.call rounds station.node) came
deed_sends setting k event.Idle station came down = becoming_sends station.node came

module _ (setting : Setting) (flying : TrafficIsSound setting.net setting.inputs setting.traffic) where
  pub deed_is : (k : ℕ) (deed : Deed) (old : StationView) → old.number ≡ k
      → is_dropped (plan_of setting k deed old).answer ≡ false
  deed_is k (event.Deliver place) old here = came_is setting flying k place old here (flight_at setting k place) refl
  deed_is k event.Grant old here = grant_is (node_job setting.net setting.inputs setting.rooms old.node)
  deed_is k event.Recover old here = back_is (restored_mode setting.net old.number (with_epoch old.node.kept))
  deed_is k deed old here = refl

pub only_nodes_that_are_up_send : OnlyNodesThatAreUpSend
only_nodes_that_are_up_send setting (ByNode k deed) came station down =
    ap (map sending_of) (deed_sends setting k deed station came down)
only_nodes_that_are_up_send setting event came station down = refl
