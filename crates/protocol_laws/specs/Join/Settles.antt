-- Verdicts that come, and questions for them, are steps of the abstract machine.
use Rattle.std.proofs.Common.{◌≡◌, inr, ℕ, ◌||◌, Bool, true, false, cond, List, ◌++◌, Option, Some, None}
use Rattle.std.proofs.Common.{option_map, refl, sym, ap, ◌∙◌, arith}
use Rattle.std.specs.Prelude.{◌≢◌, nat_le, not, slice_get, slice_set}
use Rattle.datagram.specs.declared.packet.Body.TheVariants as says
use Rattle.datagram.specs.declared.packet.Packet.{Packet as Datagram}
use Rattle.protocol.specs.Node.Common.{Network, highest_seen, with_permanent, without_tentative, with_confirmed}
use Rattle.protocol.specs.Node.Common.{RecordView, holds, live_in, is_live, mode_then, after_verdict, settled_packets}
use Rattle.protocol.specs.Node.Common.{verdict_packets, LiveView, is_down, with_kept, NodeView, ModeView, Down, Runs}
use Rattle.recovery_line.proofs.Basics.{one_inside}
use Rattle.recovery_line.proofs.Observing.{settling_moves, dropping_moves, confirming_moves}
use Rattle.protocol.specs.World.Common.{Net, Mode, live_of, image_seen, record_seen, decides, Packet, World}
use Rattle.protocol.specs.World.Common.{Step, Leads, WasSent, live_seen, mode_seen, all_seen, world_seen, net_seen}
use Rattle.protocol.specs.World.Common.{node_seen, outlets_seen, StationView, moved_to}
use Rattle.recovery_line.specs.Moves.{Settles, Drops}
use Rattle.recovery_line.specs.Nodes.{Live}
use Rattle.recovery_line.specs.Packets.{Query, Commit, Ended, Settled, Hears, after_verdict as verdict_mode}
use Rattle.recovery_line.specs.Worlds.{InFlight}
use Rattle.protocol_laws.specs.Join.Holding.{at_most, held_where, named_so, not_held, up_seen}
use Rattle.protocol_laws.specs.Join.Leading.{leads_by, leads_then, hears, outlets_same, record_at, mode_at, set_there}
use Rattle.protocol_laws.specs.Join.Sent.{MaySendAll, sends}
use Rattle.protocol.specs.declared.round_turns.RoundTurns.{RoundTurns}

-- the mode that follows from a verdict, as the abstract machine sees it
mode_is : (net : Network) (home : ℕ) (kept : RecordView) (mode : ModeView)
    → mode_seen (mode_then net home kept mode) ≡ verdict_mode (mode_seen mode) (image_seen kept.permanent)
mode_is net home kept (Runs running) = refl
mode_is net home kept other = refl

-- ---- what is said then

-- what may be sent on both sides of a test may be sent
pub may_chosen : (net : Net) (w : World) (b : Bool) (one other : List Datagram) → (b ≡ true → MaySendAll net w one)
    → (b ≡ false → MaySendAll net w other) → MaySendAll net w (cond b one other)
may_chosen net w true one other first second = first refl
may_chosen net w false one other first second = second refl

settled_may : (net : Net) (w : World) (home x n : ℕ) (kept : RecordView) → w.records home ≡ record_seen kept
    → w.modes home ≢ Mode.Down → InFlight w (Commit x home n) → holds x n kept.tentative ≡ false
    → MaySendAll net w (settled_packets home x n kept)
settled_may net w home x n kept is up asked free =
    may_chosen net w (nat_le n (highest_seen x kept)) _ _ (λ passes. (
      record {
        up = up;
        asked = asked;
        seen = rw is (at_most n (highest_seen x kept) passes);
        free = λ image held. not_held x n kept.tentative free image (rw is at held);
      },
      tt,
    )) (λ fails. tt)

live_of_seen : (mode : ModeView) → live_of (mode_seen mode) ≡ option_map live_seen (live_in mode)
live_of_seen (Runs running) = refl
live_of_seen other = refl

verdict_may : (net : Net) (w : World) (home p n : ℕ) (kept : RecordView) (mode : ModeView)
    → w.records home ≡ record_seen kept → w.modes home ≡ mode_seen mode → mode_seen mode ≢ Mode.Down
    → InFlight w (Query p home n) → MaySendAll net w (verdict_packets home p n kept (live_in mode))
verdict_may net w home p n kept mode is mode_same up asked =
    may_chosen net w (decides kept.decisions n) _ _
    (λ decided. (record { up = up_there; decided = rw is decided; why = inr asked }, tt))
    (λ open_yet. may_chosen net w (is_live n (live_in mode) || not (nat_le n (highest_seen home kept))) _ _ (λ past. tt)
    (λ ended. (
      record {
        up = up_there;
        asked = asked;
        used = rw is (grind (arith, ended));
        undecided = rw is open_yet;
        closed = λ live live_is.
            other (live_in mode) (grind (arith, ended)) live (rw (mode_same, live_of_seen mode) at live_is);
      },
      tt,
    )))
  where
    other : (o : Option LiveView) → is_live n o ≡ false → (live : Live) → option_map live_seen o ≡ Some live
        → live.number ≢ n
    other None none live e same = cc
    other (Some view) none live e same =
        let number : view.number ≡ n = ap (λ (l : Live). l.number) (one_inside refl e) ∙ same in
        absurd (grind arith)

    up_there : w.modes home ≢ Mode.Down
    up_there = rw mode_same up

up_then : (net : Network) (home : ℕ) (mode : ModeView) (kept : RecordView) → is_down mode ≡ false
    → is_down (mode_then net home kept mode) ≡ false
up_then net home Down kept up = absurd (cc)
up_then net home other kept up = refl

-- ---- one station of several

module _ (net : Network) (stations : List StationView) (k : ℕ) (old : StationView)
    (there : slice_get stations k ≡ Some old) (sent : List Packet) (up : is_down old.node.mode ≡ false)
    (failures : ℕ) (turns : RoundTurns) where
  abbrev Later : NodeView → List StationView
  Later node = slice_set stations k (moved_to node failures turns old)

  -- steps lead to where it has heard what was sent
  heard : (packet : Packet) (node : NodeView) → WasSent sent packet
      → Hears (net_seen net) k packet (node_seen old (outlets_seen stations))
      (node_seen (moved_to node failures turns old) (outlets_seen stations))
      → Leads (net_seen net) (world_seen stations sent) (world_seen (Later node) sent)
  heard packet node came step =
      let new = moved_to node failures turns old in
      leads_by (net_seen net) (world_seen stations sent) (world_seen (Later node) sent)
      (hears stations k old new there (net_seen net) sent (outlets_same stations k old new there refl) packet came step)

  -- what a node says that holds the image no more
  says_settled : (x n : ℕ) (node : NodeView) → is_down node.mode ≡ false → WasSent sent (Commit x k n)
      → holds x n node.kept.tentative ≡ false
      → Step (net_seen net) (world_seen (Later node) sent)
      (world_seen (Later node) (all_seen (settled_packets k x n node.kept) ++ sent))
  says_settled x n node node_up came free =
      let new = moved_to node failures turns old in
      let here = set_there stations k old new there in
      sends (net_seen net) (Later node) (settled_packets k x n node.kept) sent
      (settled_may (net_seen net) (world_seen (Later node) sent) k x n node.kept (record_at (Later node) k new here)
      (λ down. up_seen node.mode node_up (sym (mode_at (Later node) k new here) ∙ down)) came free)

  pub commit_leads : (x n : ℕ) → WasSent sent (Commit x k n) → holds x n old.node.kept.tentative ≡ true
      → Leads (net_seen net) (world_seen stations sent)
      (world_seen (Later (after_verdict net k (with_permanent old.node.kept) old.node))
      (all_seen (settled_packets k x n (with_permanent old.node.kept)) ++ sent))
  commit_leads x n came held =
      let node = after_verdict net k (with_permanent old.node.kept) old.node in
      let at = held_where x n old.node.kept.tentative held in
      leads_then (net_seen net) (world_seen stations sent) (world_seen (Later node) sent) _
      (heard (Commit x k n) node came (
        refl,
        record {
          image = image_seen at.held.image;
          up = up_seen old.node.mode up;
          settles = named_so x n old.node.kept.tentative at
              (λ (y m : ℕ). Settles (record_seen old.node.kept) (record_seen node.kept) y m (image_seen at.held.image))
              (settling_moves old.node.kept at.held at.is);
          mode = mode_is net k node.kept old.node.mode;
          outlets = refl;
        },
      ))
      (says_settled x n node (up_then net k old.node.mode node.kept up) came refl) refl

  pub confirm_leads : (x n : ℕ) → WasSent sent (Commit x k n) → holds x n old.node.kept.tentative ≡ false
      → Leads (net_seen net) (world_seen (Later old.node) sent)
      (world_seen (Later old.node) (all_seen (settled_packets k x n old.node.kept) ++ sent))
  confirm_leads x n came free =
      leads_by (net_seen net) (world_seen (Later old.node) sent) _ (says_settled x n old.node up came free)

  pub ended_leads : (x n : ℕ) → WasSent sent (Ended x k n) → holds x n old.node.kept.tentative ≡ true
      → Leads (net_seen net) (world_seen stations sent)
      (world_seen (Later (after_verdict net k (without_tentative old.node.kept) old.node)) sent)
  ended_leads x n came held =
      let node = after_verdict net k (without_tentative old.node.kept) old.node in
      let at = held_where x n old.node.kept.tentative held in
      heard (Ended x k n) node came (
        refl,
        record {
          image = image_seen at.held.image;
          up = up_seen old.node.mode up;
          drops = named_so x n old.node.kept.tentative at
              (λ (y m : ℕ). Drops (record_seen old.node.kept) (record_seen node.kept) y m (image_seen at.held.image))
              (dropping_moves old.node.kept at.held at.is);
          mode = mode_is net k node.kept old.node.mode;
          outlets = refl;
        },
      )

  pub settled_leads : (p n : ℕ) → WasSent sent (Settled p k n)
      → Leads (net_seen net) (world_seen stations sent)
      (world_seen (Later (with_kept (with_confirmed n p old.node.kept) old.node)) sent)
  settled_leads p n came = heard (Settled p k n) _ came (
    refl,
    record {
      up = up_seen old.node.mode up;
      confirms = confirming_moves old.node.kept n p;
      mode = refl;
      outlets = refl;
    },
  )

  pub query_leads : (p n : ℕ) → WasSent sent (Query p k n)
      → Leads (net_seen net) (world_seen (Later old.node) sent)
      (world_seen (Later old.node)
      (all_seen (verdict_packets k p n old.node.kept (live_in old.node.mode)) ++ sent))
  query_leads p n came =
      let new = moved_to old.node failures turns old in
      let here = set_there stations k old new there in
      leads_by (net_seen net) (world_seen (Later old.node) sent) _
      (sends (net_seen net) (Later old.node) (verdict_packets k p n old.node.kept (live_in old.node.mode)) sent
      (verdict_may (net_seen net) (world_seen (Later old.node) sent) k p n old.node.kept old.node.mode
      (record_at (Later old.node) k new here) (mode_at (Later old.node) k new here) (up_seen old.node.mode up) came))
