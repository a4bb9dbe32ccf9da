-- A turn that comes back fits what the node has now, and what is true of a station stays so.
use Rattle.std.proofs.Common.{◌≡◌, ℕ, suc, List, ℤ, Option, Some, None, refl, ◌∙◌, ap}
use Rattle.std.proofs.Math.Logic.{∥∥₁_elim, ∥∥₁_map₂}
use Rattle.std.proofs.Math.Bridge.{le_prop}
use native.Mathlib.Nat.{ℕ_set}
use Rattle.protocol.specs.Node.Common.{approximation, IsValid, Fits, Network, Standing, LogState, JobView, RunningNode}
use Rattle.protocol.specs.Node.Common.{installed, inbox_turned, ImageTakes, IsJobOf, LinksAreLaidOut, CountsAreWithin}
use Rattle.protocol.specs.Node.Common.{HasReached, LogsAreWithin, port_on}
use Rattle.ckpt_codec.specs.Common.{LogTakes}
use Rattle.protocol.specs.Node.Installing.{with_turn}
use Rattle.protocol.specs.Node.Reached.{IsTurnOf}
use Rattle.protocol_laws.specs.Node.ImageLaws.{map_keeps}
use Rattle.protocol_laws.specs.Node.InboxLaws.{inboxes_installed, links_installed}
use Rattle.protocol_laws.specs.Node.InnerLaws.{output_apart}
use Rattle.protocol_laws.specs.Node.LinkLaws.{inboxes_on_next}
use Rattle.protocol_laws.specs.Node.InstallLaws.{job_here, reached_install, on_install}
use Rattle.protocol_laws.specs.Node.LiftLaws.{IsAtHand, acts_on_next, next_are_at_hand, reached_on_next}
use Rattle.protocol_laws.specs.World.OutputLaws.{output_here}
use Rattle.protocol_laws.specs.Node.FitLaws.{turn_fits, counts_installed, laid_out_installed, logs_installed}
use Rattle.protocol_laws.specs.Node.FitLaws.{base_installed}
use Rattle.protocol_laws.specs.Node.ReleaseLaws.{beginning_stays}
use Rattle.protocol.specs.World.Common.{OutputView, HasCome, IsSound}
use Rattle.protocol.specs.World.DoneView.{IsTurnOfJob}
use Rattle.protocol.specs.World.Sound.{OutputsAreSound}
use Rattle.protocol.specs.declared.links.Inbox.{Inbox}

-- a node that has come so far on one approximation has come so far on the next, where what it has at hand comes next
abbrev pub come_on_next : (net : Network) (inputs : List (List ℤ)) (node : RunningNode) (outputs : List OutputView)
    → IsValid net → Fits net inputs → HasCome net inputs node outputs → HasCome net inputs node outputs
come_on_next net inputs node outputs valid fits come = record {
  reached = reached_on_next net inputs node valid fits come.reached;
  inboxes = inboxes_on_next net inputs come.reached.n node.inboxes valid fits come.inboxes;
  out = come.out;
  released = λ j p output channel is on from.
      rw (acts_on_next net inputs valid fits come.reached.n come.reached.current_acts p)
      (come.released j p output channel is on from);
}

module _ (net : Network) (inputs : List (List ℤ)) (valid : IsValid net) (node : RunningNode)
    (outputs : List OutputView) (job : JobView) (after : Standing) (taken : List ℕ) (sent : List (List ℤ)) where
  -- the job that is out is of this network, so a turn of its own code is one of the network's
  turn_of_done : IsJobOf net inputs node.current node.inboxes job → IsTurnOfJob job after taken sent
      → IsTurnOf net job after taken sent
  turn_of_done of turn code there = turn code (of.code ∙ there)

  turn_of_sound : IsSound net inputs node outputs → node.out ≡ Some job → ∥ IsTurnOfJob job after taken sent ∥₁
      → ∥ IsTurnOf net job after taken sent ∥₁
  turn_of_sound sound out turn = ∥∥₁_map₂ sound.come turn (λ come t. turn_of_done (come.out job out) t)

  module _ (fits : Fits net inputs) (sound : IsSound net inputs node outputs) (out : node.out ≡ Some job) where
    -- how far it has come on the next approximation
    abbrev next : HasCome net inputs node outputs → HasReached net inputs node
    next come = reached_on_next net inputs node valid fits come.reached

    -- what it has at hand comes next there
    hand_of : (come : HasCome net inputs node outputs)
        → IsAtHand net inputs (approximation net inputs (next come).n) (next come).current_acts node.current node.inboxes
        job.process
    hand_of come =
        next_are_at_hand net inputs valid fits come.reached.n node.kept.node come.reached.current_acts node.current
        node.inboxes come.reached.current sound.kept.laid_out sound.kept.counts sound.kept.links.inboxes come.inboxes
        job.process
        (job_here net node.kept.node inputs node.current node.inboxes job sound.kept.laid_out (come.out job out))

    -- A proposition that follows from how far it has come and from the turn holds, though neither is at hand itself.
    either_way : {P : Type 0} → IsProp P → ∥ IsTurnOf net job after taken sent ∥₁
        → (HasCome net inputs node outputs → IsTurnOf net job after taken sent → P) → P
    either_way prop turn by = ∥∥₁_elim (∥∥₁_map₂ sound.come turn by) prop (λ p. p)

    -- The turn fits

    takes_prop : (n : ℕ) (log : Option LogState) → IsProp (LogTakes n log)
    takes_prop n None = hlevel
    takes_prop n (Some log) = hlevel

    takes : ∥ IsTurnOf net job after taken sent ∥₁ → ImageTakes net.channels job.process taken sent node.current
    takes turn k saved is = either_way (hlevel (le_prop, takes_prop)) turn (λ come t.
        turn_fits net node.kept.node inputs node job after taken sent (next come) sound.kept.laid_out (hand_of come)
        sound.kept.counts sound.kept.logs sound.kept.links.inboxes fits (come.out job out) t k saved is)

    -- What is true stays so

    counts_then : ∥ IsTurnOf net job after taken sent ∥₁
        → CountsAreWithin net inputs (installed net.channels job.process after taken sent node.current)
    counts_then turn k saved is = either_way (hlevel le_prop) turn (λ come t.
        counts_installed net node.kept.node inputs node job after taken sent (next come) sound.kept.laid_out
        (hand_of come) sound.kept.counts sound.kept.links.inboxes (come.out job out) t k saved is)

    logs_then : ∥ IsTurnOf net job after taken sent ∥₁
        → LogsAreWithin (installed net.channels job.process after taken sent node.current)
    logs_then turn k saved log is there = either_way (hlevel le_prop) turn (λ come t.
        logs_installed net node.kept.node inputs node job after taken sent (next come) sound.kept.laid_out
        (hand_of come) sound.kept.logs (come.out job out) t k saved log is there)

    links_then : ∥ IsTurnOf net job after taken sent ∥₁
        → LinksAreLaidOut net node.kept.node (with_turn net.channels job.process after taken sent node)
    links_then turn = record {
      incoming =
          map_keeps (λ (i : Inbox). i.channel) (inbox_turned net.channels job.process taken) node.inboxes (λ i. refl)
          ∙ sound.kept.links.incoming;
      outgoing = sound.kept.links.outgoing;
      inboxes = λ k inbox is. either_way (hlevel (le_prop, ℕ_set)) turn (λ come t.
          (links_installed net node.kept.node inputs node job after taken sent (next come) sound.kept.laid_out
          (hand_of come) sound.kept.links (come.out job out) t).inboxes k inbox is);
      restored = sound.kept.links.restored;
    }

    come_then : HasCome net inputs node outputs → IsTurnOf net job after taken sent
        → HasCome net inputs (with_turn net.channels job.process after taken sent node) outputs
    come_then come turn =
        let then = reached_install net node.kept.node inputs node job after taken sent (next come) sound.kept.laid_out
        (hand_of come) (come.out job out) turn in
        let on = on_install net node.kept.node inputs node job after taken sent (next come) sound.kept.laid_out
        (hand_of come) (come.out job out) turn in
        record {
          reached = then;
          inboxes = rw on.same
              (inboxes_installed net.channels job.process taken (approximation net inputs (suc come.reached.n))
              node.inboxes (λ k inbox is. (sound.kept.links.inboxes k inbox is).next)
              (inboxes_on_next net inputs come.reached.n node.inboxes valid fits come.inboxes));
          out = λ other is. absurd (cc);
          released = λ j p output channel is on_channel from.
              beginning_stays net inputs node (with_turn net.channels job.process after taken sent node) (next come) then
              output.channel p output.taken on
              ((come_on_next net inputs node outputs valid fits come).released j p output channel is on_channel from);
        }

    covered_then : OutputsAreSound (with_turn net.channels job.process after taken sent node) outputs
    covered_then j output is =
        let before = sound.covered j output is in
        let there = output_here net node.kept.node outputs sound.listed j output is in
        let base = base_installed net.channels job.process after taken sent node.current output.channel
        (λ received log. output_apart net node.kept.node node.current output.channel received there.channel log
        sound.kept.laid_out there.there (ap (port_on net node.kept.node) there.outside)) in
        record { no_gap = rw base before.no_gap; covered = before.covered }

    stays : ∥ IsTurnOf net job after taken sent ∥₁
        → IsSound net inputs (with_turn net.channels job.process after taken sent node) outputs
    stays turn = record {
      listed = sound.listed;
      kept = record {
        laid_out = laid_out_installed net node.kept.node job.process after taken sent node.current sound.kept.laid_out;
        counts = counts_then turn;
        logs = logs_then turn;
        links = links_then turn;
      };
      covered = covered_then;
      come = ∥∥₁_map₂ sound.come turn (λ come t. come_then come t);
    }

  -- The same of what a job that was run says of itself

  pub takes_done : Fits net inputs → IsSound net inputs node outputs → node.out ≡ Some job
      → ∥ IsTurnOfJob job after taken sent ∥₁ → ImageTakes net.channels job.process taken sent node.current
  takes_done fits sound out turn = takes fits sound out (turn_of_sound sound out turn)

  pub sound_done : Fits net inputs → IsSound net inputs node outputs → node.out ≡ Some job
      → ∥ IsTurnOfJob job after taken sent ∥₁
      → IsSound net inputs (with_turn net.channels job.process after taken sent node) outputs
  sound_done fits sound out turn = stays fits sound out (turn_of_sound sound out turn)
