-- What a node says in its turn is sent.
use Rattle.std.proofs.Common.{◌≡◌, ℕ, Bool, false, cond, List, All, map, refl, sym, ap, subst, ◌∙◌}
use Rattle.std.specs.Prelude.{not}
use Rattle.protocol.specs.Node.Common.{IsPacket, Packet, Network, RecordView, restart_after, is_down, NodeView}
use Rattle.protocol.specs.Node.Common.{IsMade, IsPut, Prospect, if_due, packets_by, room_for, telling, turn_packets}
use Rattle.protocol.specs.World.Common.{Traffic, all_sent, has_happened, ReplyView, StationView, moved_to, sending_of}
use Rattle.protocol.specs.declared.reply.Reply.TheVariants.{Sent}
use Rattle.protocol.specs.World.Steps.{send_plan}
use Rattle.protocol.specs.declared.outcome.Outcome.TheVariants as outcome
use Rattle.station.specs.Coming.{ComesOut}

module _ (fits : RecordView → Bool) (round : ℕ) (net : Network) (old new : StationView) (answer : ReplyView)
    (before after : Traffic) (packets : List Packet) where
  pub sends : is_down old.node.mode ≡ false
      → packets ≡ turn_packets net old.number old.node.kept old.node.mode → All IsPacket packets → answer ≡ Sent
      → new ≡ moved_to old.node old.failures (send_plan net round old).turns old
      → after ≡ all_sent round (map sending_of packets) before → (k : ℕ)
      → ComesOut fits round (send_plan net round old) old answer new k before after
  sends up are allowed answers same sent k =
      let plan = send_plan net round old in
      let tells = telling (turn_packets net old.number old.node.kept old.node.mode) old.node in
      let is : tells ≡ plan.prospect = ap (λ (d : Bool). if_due (not d) tells) (sym up) in
      let said : packets ≡ packets_by plan.prospect outcome.Made =
      are ∙ ap (λ (p : Prospect). packets_by p outcome.Made) is in
      record {
        came = outcome.Made;
        step = record {
          call = 0;
          step = subst
              (λ (p : Prospect). IsMade (restart_after old.node.armed 0 round) p old.node outcome.Made new.node) is
              (ap (λ (s : StationView). s.node) same);
          put = subst (λ (p : Prospect). IsPut (room_for fits p) old.failures new.failures outcome.Made) is
              (refl, ap (λ (s : StationView). s.failures) same);
          answers = answers;
          allowed = subst (All IsPacket) said allowed;
          same = same
              ∙ (ap (λ (n : NodeView). moved_to n old.failures plan.turns old)
              (sym (ap (λ (s : StationView). s.node) same))
              ∙ ap (λ (f : ℕ). moved_to new.node f plan.turns old) (sym (ap (λ (s : StationView). s.failures) same)));
        };
        traffic = sent
            ∙ (ap (λ (list : List Packet). all_sent round (map sending_of list) before) said
            ∙ ap (λ (r : ReplyView). cond (has_happened r)
            (all_sent round (map sending_of (packets_by plan.prospect outcome.Made)) before) before) (sym answers));
      }
