-- Whatever a node hears, what it makes of its station is sound.
use Rattle.std.proofs.Common.{◌≡◌, ℕ, Bool, true, false, ◌&&◌, cond, List, ℤ, [], Option, Some, None, refl, ap, arith}
use Rattle.std.proofs.Common.{◌<◌}
use Rattle.std.specs.Prelude.{◌==◌}
use Rattle.std.proofs.Math.Bridge.{le_prop}
use Rattle.std.proofs.Math.Logic.{∥∥₁_elim, ∥∥₁_map}
use Rattle.std.proofs.lemmas.Bool.{eqb-true, ltb-true}
use mathlib.Core.HLevel.{⊥_prop}
use Rattle.ckpt_codec.specs.SizeLaws.{within_permanent}
use Rattle.protocol.specs.Node.Common.{MAX_RETAINED_ITEMS, IsPacket, Body, Need, Packet, Fits, Network, IsValid}
use Rattle.protocol.specs.Node.Common.{MAX_COUNT, Tentative, trimmed_image, with_permanent, names_right, names_run}
use Rattle.protocol.specs.Node.Common.{AskAnswer, TakesNow, holds, answer_to_ask, with_current_as, live_in, Ignores}
use Rattle.protocol.specs.Node.Common.{Joins, GivesUp, answer_to_took, hearing_covered, refused_prospect, took_prospect}
use Rattle.protocol.specs.Node.Common.{hearing, packet_for, PassesOver, Notes, GoesBack, noting_undone, undone_prospect}
use Rattle.protocol.specs.Node.Common.{hear_prospect, with_kept, ModeView, Runs, RunningView, running_node, on_running}
use Rattle.protocol.specs.Node.Common.{Prospect, becoming, cut_at, commit_prospect, ended_prospect, settled_packets}
use Rattle.protocol.specs.Node.Common.{settled_prospect}
use Rattle.datagram.proofs.Exactness.{whole_again}
use Rattle.datagram.specs.PacketText.{IsBody}
use Rattle.datagram.specs.Reading.{whole_at}
use Rattle.datagram.specs.declared.packet.Body.TheVariants as says
use Rattle.protocol.specs.World.Common.{names, outputs_of, RunsSoundly, StationInvariant, StationView, BytesAreSound}
use Rattle.protocol_laws.specs.Join.Crossings.{between_cross, both_true}
use Rattle.protocol.specs.Node.Answering.{answering, ask_prospect}
use Rattle.protocol.specs.Node.Collecting.{TookAnswer, joining, loses, took_by}
use Rattle.protocol.specs.Node.Delivering.{IsHeard, if_right}
use Rattle.protocol.specs.Node.GoingBack.{UndoneAnswer, answer_with, undone_by}
use Rattle.protocol_laws.specs.Node.TrimLaws.{behind_trimmed}
use Rattle.protocol.specs.World.Traffic.{BodyIsSound, SpellsSound}
use Rattle.protocol_laws.specs.World.CutLaws.{GoesElsewhere, cross_elsewhere, sound_cut}
use Rattle.protocol_laws.specs.World.HearLaws.{body_known, hear_sound, order_heard}
use Rattle.protocol_laws.specs.World.MoveLaws.{changed_from, confirmed_keeps, gives_up_keeps, node_keeps, over_keeps}
use Rattle.protocol_laws.specs.World.BackLaws.{goes_back_keeps, noted_runs}
use Rattle.protocol_laws.specs.World.MoveLaws.{runs_same, taken_keeps, verdict_keeps}
use Rattle.protocol_laws.specs.World.OrderLaws.{behind_itself, order_ahead}
use Rattle.protocol_laws.specs.World.PlanLaws.{KeepsStation, ProspectKeeps, keeps_still, moved_keeps, runs_at}

module _ (net : Network) (inputs : List (List ℤ)) (valid : IsValid net) (fits : Fits net inputs) (old : StationView)
    (inv : StationInvariant net inputs old) (named : old.node.kept.node ≡ old.number) where
  -- what runs with the record of before runs soundly
  abbrev RunsNow : RunningView → Type 0
  RunsNow running =
      RunsSoundly net inputs (running_node old.node.kept old.node.version running) (outputs_of old.outlets)

  now : (running : RunningView) → old.node.mode ≡ Runs running → RunsNow running
  now = runs_at net inputs old inv

  -- nothing changes, whatever is sent
  as_it_is : {packets refused : List Packet}
      → KeepsStation net inputs old
      (record { node = old.node; puts = false; grows = false; packets = packets; refused = refused })
  as_it_is =
      keeps_still net inputs old.node _ _ old
      (moved_keeps net inputs old.node old.failures old.turns old inv.kept inv.runs) refl

  -- a change of what it has in memory, after which it runs soundly
  changed : {packets refused : List Packet} (change : RunningView → RunningView)
      → ((running : RunningView) → old.node.mode ≡ Runs running → RunsNow (change running))
      → KeepsStation net inputs old
      (record {
        node = on_running change old.node;
        puts = false;
        grows = false;
        packets = packets;
        refused = refused;
      })
  changed change soundly =
      keeps_still net inputs (on_running change old.node) _ _ old
      (node_keeps net inputs old inv (on_running change old.node) inv.kept (λ later is.
      let before = changed_from change old.node.mode later is in rw (← before.2) (soundly before.0 before.1))) refl

  -- what is so of both that a test chooses from is so of the one that it chooses
  chosen : (b : Bool) (x y : Prospect) → ProspectKeeps net inputs old x → ProspectKeeps net inputs old y
      → ProspectKeeps net inputs old (cond b x y)
  chosen true x y one other = one
  chosen false x y one other = other

  -- ---- items, and what comes next of them

  heard : (body : Body) → BodyIsSound net inputs body
      → ProspectKeeps net inputs old (becoming (on_running (hearing body) old.node))
  heard body sound =
      changed (hearing body) (λ running is. record {
        order = order_heard body old.node.kept running (now running is).order;
        sound = hear_sound net inputs valid fits old.node.kept old.node.version running (outputs_of old.outlets) body
            sound (now running is).sound;
      })

  -- what the receiver of a channel keeps for good cuts its log
  cut : (channel count : ℕ) → GoesElsewhere net old.node.kept.node channel
      → ProspectKeeps net inputs old (becoming (on_running (cut_at channel count) old.node))
  cut channel count goes =
      changed (cut_at channel count) (λ running is. record {
        order = order_ahead old.node.kept running.current (trimmed_image channel count running.current)
            (behind_trimmed channel count running.current) (now running is).order;
        sound = sound_cut net inputs (running_node old.node.kept old.node.version running) (outputs_of old.outlets)
            channel count goes (now running is).sound;
      })

  -- ---- it is asked

  asked : (x n c m : ℕ) → ProspectKeeps net inputs old (ask_prospect net old.number x n c m old.node)
  asked x n c m = by (answer_to_ask x n c m old.node.kept old.node.mode)
    where
      takes : (mode : ModeView) → old.node.mode ≡ mode → (packets refused : List Packet)
          → KeepsStation net inputs old
          (record {
            node = with_kept (with_current_as x n mode old.node.kept) old.node;
            puts = true;
            grows = true;
            packets = packets;
            refused = refused;
          })
      takes (Runs running) is packets refused =
          taken_keeps net inputs old inv valid x n running is old.node.mode
          (λ later now. rw (runs_same net inputs old inv running later is now) refl) packets refused
      takes _ is packets refused = record {
        keeps = moved_keeps net inputs old.node old.failures old.turns old inv.kept inv.runs;
        stays = λ none. absurd (cc);
        same_node = refl;
        ahead = behind_itself old.node.kept.permanent;
      }

      by : (answer : AskAnswer) → ProspectKeeps net inputs old (answering net old.number x n c m answer old.node)
      by TakesNow = takes old.node.mode refl _ _
      by _ = as_it_is

  -- ---- it is answered

  took : (p n c : ℕ) (needs : List Need)
      → ProspectKeeps net inputs old (took_prospect net old.number p n c needs old.node)
  took p n c needs = by (answer_to_took net old.number n c needs old.node.kept (live_in old.node.mode))
    where
      by : (answer : TookAnswer) → ProspectKeeps net inputs old (took_by net old.number p c needs answer old.node)
      by Ignores = as_it_is
      by Joins = changed (joining net old.number p c needs) now
      by GivesUp = gives_up_keeps net inputs old inv [] []

  refused_so : (n : ℕ) → ProspectKeeps net inputs old (refused_prospect old.number n old.node)
  refused_so n = chosen (loses old.number n old.node) _ _ (gives_up_keeps net inputs old inv [] []) as_it_is

  -- ---- it hears a verdict, and what becomes of one

  committed : (x n : ℕ) → ProspectKeeps net inputs old (commit_prospect net old.number x n old.node)
  committed x n =
      chosen (holds x n old.node.kept.tentative) _ _
      (verdict_keeps net inputs old inv 0 [] (within_permanent MAX_RETAINED_ITEMS old.node.kept inv.kept.bounded) named
      (settled_packets old.number x n (with_permanent old.node.kept)) []) as_it_is

  ended : (x n : ℕ) → ProspectKeeps net inputs old (ended_prospect net old.number x n old.node)
  ended x n = chosen (holds x n old.node.kept.tentative) _ _ (over_keeps net inputs old inv named [] []) as_it_is

  settled : (p n : ℕ) → ProspectKeeps net inputs old (settled_prospect p n old.node)
  settled p n =
      chosen (names old.node.kept.decisions n p) _ _ (confirmed_keeps net inputs old inv n p [] []) as_it_is

  -- ---- the sender of a channel restored an image

  undone : (c epoch count : ℕ) → ProspectKeeps net inputs old (undone_prospect c epoch count old.node)
  undone c epoch count =
      by (answer_with c epoch count old.node.kept.epoch old.node.kept.tentative old.node.mode) refl
    where
      -- only a node that holds no image, and whose epoch isn't the greatest, goes back
      went : (own : ℕ) (held : Option Tentative) (mode : ModeView)
          → answer_with c epoch count own held mode ≡ GoesBack → (held ≡ None) × (own < MAX_COUNT)
      went own held mode is = grind (arith, ltb-true)

      by : (answer : UndoneAnswer)
          → answer_with c epoch count old.node.kept.epoch old.node.kept.tentative old.node.mode ≡ answer
          → ProspectKeeps net inputs old (undone_by c epoch answer old.node)
      by PassesOver is = as_it_is
      by Notes is = changed (noting_undone c epoch) (λ running runs.
          noted_runs net inputs c epoch old.node.kept old.node.version running (outputs_of old.outlets)
          (now running runs))
      by GoesBack is =
          let free = went old.node.kept.epoch old.node.kept.tentative old.node.mode is in
          goes_back_keeps net inputs old inv c epoch free.0 free.1

  -- ---- whatever it hears

  pub hear_keeps : (from : ℕ) (what : Body) → BodyIsSound net inputs what
      → names_run net from old.number what ≡ true
      → ProspectKeeps net inputs old (hear_prospect net old.number from what old.node)
  hear_keeps from (says.Data channel position item) is right = heard (says.Data channel position item) is
  hear_keeps from (says.Ack channel epoch next) is right = heard (says.Ack channel epoch next) is
  hear_keeps from (says.Kept channel count) is right =
      cut channel count
      (rw named (cross_elsewhere net old.number from channel (between_cross net old.number from channel right)))
  hear_keeps from (says.Ask n c m) is right = asked from n c m
  hear_keeps from (says.Took n c m needs) is right = took from n c needs
  hear_keeps from (says.Covered n c m) is right = changed (hearing_covered n c) now
  hear_keeps from (says.Refused n c reason) is right = refused_so n
  hear_keeps from (says.Query n) is right = as_it_is
  hear_keeps from (says.Commit n) is right = committed from n
  hear_keeps from (says.Ended n) is right = ended from n
  hear_keeps from (says.Settled n) is right = settled from n
  hear_keeps from (says.Undone channel epoch count) is right = undone channel epoch count

-- bytes spell one packet
spells : (net : Network) (inputs : List (List ℤ)) (packet : Packet) (to : ℕ) (bytes : List ℕ)
    → whole_at bytes ≡ Some packet → (says : SpellsSound net inputs to bytes) → says.packet ≡ packet
spells net inputs packet to bytes whole says = (let again = whole_again bytes says.packet says.text in cc)

-- the packet that bytes spell is sound where they are
pub whole_sound : (net : Network) (inputs : List (List ℤ)) (packet : Packet) (to : ℕ) (bytes : List ℕ)
    → BytesAreSound net inputs to bytes → whole_at bytes ≡ Some packet → BodyIsSound net inputs packet.body
whole_sound net inputs packet to bytes sound whole =
    body_known net inputs packet.body
    (∥∥₁_map sound (λ says. rw (← spells net inputs packet to bytes whole says) says.sound))

-- and is right where it is one for the node
pub right_is : (net : Network) (home : ℕ) (found : Option Packet) (packet : Packet)
    → if_right net home found ≡ Some packet
    → (found ≡ Some packet) × (((packet.to == home) && names_right net packet) ≡ true)
right_is net home None packet is = absurd (cc)
right_is net home (Some other) packet is =
    let kept = kept_if (λ (p : Packet). (p.to == home) && names_right net p) other packet is in
    (ap Some kept.0, kept.1)
  where
    kept_if : {A : Type 0} (test : A → Bool) (x y : A) → cond (test x) (Some x) None ≡ Some y
        → (x ≡ y) × (test y ≡ true)
    kept_if test x y e = grind arith

-- that a body may be written is known where it is known to be
body_written : (body : Body) → ∥ IsBody body ∥₁ → IsBody body
body_written (says.Query number) known = ∥∥₁_elim known (hlevel (le_prop, ⊥_prop)) (λ b. b)
body_written body known = ∥∥₁_elim known (hlevel (le_prop, ⊥_prop)) (λ b. b)

whole_text : (net : Network) (inputs : List (List ℤ)) (packet : Packet) (to : ℕ) (bytes : List ℕ)
    → BytesAreSound net inputs to bytes → whole_at bytes ≡ Some packet → ∥ IsPacket packet ∥₁
whole_text net inputs packet to bytes sound whole =
    ∥∥₁_map sound (λ says. rw (← spells net inputs packet to bytes whole says) says.text.allowed)

pub whole_written : (net : Network) (inputs : List (List ℤ)) (packet : Packet) (to : ℕ) (bytes : List ℕ)
    → BytesAreSound net inputs to bytes → whole_at bytes ≡ Some packet → IsBody packet.body
whole_written net inputs packet to bytes sound whole =
    body_written packet.body (∥∥₁_map (whole_text net inputs packet to bytes sound whole) (λ p. p.body))

whole_packet : (net : Network) (inputs : List (List ℤ)) (packet : Packet) (to : ℕ) (bytes : List ℕ)
    → BytesAreSound net inputs to bytes → whole_at bytes ≡ Some packet → IsPacket packet
whole_packet net inputs packet to bytes sound whole =
    let text = whole_text net inputs packet to bytes sound whole in
    record {
      from = ∥∥₁_elim text le_prop (λ p. p.from);
      to = ∥∥₁_elim text le_prop (λ p. p.to);
      apart = λ same. ∥∥₁_elim text ⊥_prop (λ p. p.apart same);
      body = whole_written net inputs packet to bytes sound whole;
    }

pub named_here : (net : Network) (home : ℕ) (bytes : List ℕ) (packet : Packet)
    → packet_for net home bytes ≡ Some packet → (packet.to ≡ home) × (names_right net packet ≡ true)
named_here net home bytes packet is =
    let right = right_is net home (whole_at bytes) packet is in
    let both = both_true (packet.to == home) (names_right net packet) right.1 in
    (eqb-true packet.to home both.0, both.1)

-- sound bytes that spell one for the node may be heard
pub heard_right : (net : Network) (inputs : List (List ℤ)) (home : ℕ) (bytes : List ℕ) (to : ℕ)
    → BytesAreSound net inputs to bytes → (packet : Packet) → packet_for net home bytes ≡ Some packet
    → IsHeard net home packet
heard_right net inputs home bytes to says packet is =
    let named = named_here net home bytes packet is in
    record {
      allowed = whole_packet net inputs packet to bytes says (right_is net home (whole_at bytes) packet is).0;
      here = named.0;
      names = named.1;
    }
