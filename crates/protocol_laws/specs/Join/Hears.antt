-- Whatever packet comes to a node, what is made of it is steps of the abstract machine.
use Rattle.std.proofs.Common.{◌≡◌, ◌≢◌, ◌⊎◌, inl, inr, ℕ, zero, suc, ◌<◌, ◌&&◌, Bool, true, false, cond, List, [], ◌∷◌}
use Rattle.std.proofs.Common.{◌++◌, length, Option, Some, None, option_map, refl, ap, arith}
use Rattle.std.specs.Prelude.{slice_get, slice_set}
use Rattle.std.specs.List.{list_all}
use Rattle.std.proofs.lemmas.Bool.{eqb-true}
use Rattle.protocol.specs.Node.Common.{Body, Need, Network, IsValid, trimmed_image, base_of, sent_of, RecordView}
use Rattle.protocol.specs.Node.Common.{Tentative, holds, answer_to_ask, kept_then, AskAnswer, TakesNow, live_in}
use Rattle.protocol.specs.Node.Common.{is_live, was_asked, Ignores, Joins, GivesUp, answer_to_took, hearing_covered}
use Rattle.protocol.specs.Node.Common.{refused_prospect, took_prospect, PassesOver, Notes, GoesBack, noting_undone}
use Rattle.protocol.specs.Node.Common.{undone_prospect, hear_prospect, settled_packets, verdict_packets}
use Rattle.protocol.specs.Node.Common.{commit_prospect, ended_prospect, settled_prospect, are_nodes, names_run, hearing}
use Rattle.protocol.specs.Node.Common.{is_incoming, is_outgoing, LiveView, is_down, NodeView, ModeView, Down, InDoubt}
use Rattle.protocol.specs.Node.Common.{Runs, RunningView, on_mode, on_running, Prospect, becoming, putting, telling}
use Rattle.protocol.specs.Node.Common.{cut_at}
use Rattle.datagram.specs.declared.packet.Body.TheVariants as says
use Rattle.datagram.specs.declared.packet.Packet.{Packet as Datagram}
use Rattle.protocol.specs.World.Common.{image_seen, record_seen, names, Packet, Leads, WasSent, need_of, live_seen}
use Rattle.protocol.specs.World.Common.{mode_seen, all_seen, world_seen, net_seen, outlets_seen, StationView, moved_to}
use Rattle.recovery_line.specs.Nodes.{Node}
use Rattle.recovery_line.specs.Packets.{Kept, Ask, Took, Covered, Query, Commit, Ended, Settled, HearsKept}
use Rattle.protocol.specs.Node.Answering.{takes_now, answering}
use Rattle.protocol.specs.Node.Collecting.{TookAnswer, are_met, give_up_prospect, took_by, loses}
use Rattle.protocol.specs.Node.GoingBack.{UndoneAnswer, answer_with, gone_back, undone_by}
use Rattle.protocol.specs.Node.Hearing.{remembering}
use Rattle.protocol.specs.Join.Seen.{body_seen}
use Rattle.protocol_laws.specs.Join.Answers.{answer_tells, answer_leads}
use Rattle.protocol_laws.specs.Join.Collects.{covered_leads, give_up_leads, joined_leads}
use Rattle.protocol_laws.specs.Join.Crossings.{both_true, between_cross, channel_within, goes_cross}
use Rattle.protocol_laws.specs.Join.Cuts.{cut_trims, cut_unseen, within_or_out}
use Rattle.protocol_laws.specs.Join.Holding.{IsHeld, held_where}
use Rattle.protocol_laws.specs.Join.Returns.{goes_back}
use Rattle.protocol_laws.specs.Join.Leading.{acts, leads_here, leads_by, leads_from, hears, outlets_same, unseen}
use Rattle.protocol_laws.specs.Join.Plans.{ProspectLeads}
use Rattle.protocol_laws.specs.Join.Settles.{commit_leads, confirm_leads, ended_leads, settled_leads, query_leads}
use Rattle.protocol.specs.Node.Addresses.{runs_between}
use Rattle.protocol.specs.declared.round_turns.RoundTurns.{RoundTurns}

-- ---- what isn't seen of a node's memory

-- a change that leaves where the node stands, and the answers that it collects
pub record IsUnseen (change : RunningView → RunningView) : Type 0 where
  pub current : (running : RunningView) → (change running).current ≡ running.current
  pub live : (running : RunningView) → (change running).live ≡ running.live

pub mode_unseen : (change : RunningView → RunningView) → IsUnseen change → (mode : ModeView)
    → mode_seen (on_mode change mode) ≡ mode_seen mode
mode_unseen change leaves (Runs running) = rw (leaves.current running, leaves.live running) refl
mode_unseen change leaves other = refl

-- ---- needs

few_needs : (net : Network) (p : ℕ) (needs : List Need)
    → list_all (λ (need : Need). is_incoming net p need.channel) needs ≡ true → (i : ℕ) (need : Need)
    → slice_get needs i ≡ Some need → need.channel < length net.channels
few_needs net p [] all i need is = absurd (cc)
few_needs net p (x ∷ needs) all zero need is = channel_within net p need.channel (grind arith)
few_needs net p (x ∷ needs) all (suc i) need is = few_needs net p needs (grind arith) i need is

-- ---- one station of several, to which node `from` tells something

module _ (net : Network) (valid : IsValid net) (stations : List StationView) (k : ℕ) (old : StationView)
    (there : slice_get stations k ≡ Some old) (sent : List Packet) (from : ℕ) (up : is_down old.node.mode ≡ false)
    (listed : are_nodes net from k ≡ true → from < length old.node.kept.highest)
    (wide : (running : RunningView) (live : LiveView) → old.node.mode ≡ Runs running → running.live ≡ Some live
    → length live.questions ≡ length net.channels) where
  abbrev seen : RecordView → ModeView → Node
  seen kept mode = record { disk = record_seen kept; mode = mode_seen mode; outlets = outlets_seen stations }

  -- steps lead to where the node is this one, and nothing is sent
  abbrev Reaches : NodeView → Type 0
  Reaches node = (failures : ℕ) (turns : RoundTurns)
      → Leads (net_seen net) (world_seen stations sent)
      (world_seen (slice_set stations k (moved_to node failures turns old)) sent)

  -- what changes nothing that is seen
  still : (node : NodeView) → node.kept ≡ old.node.kept → mode_seen node.mode ≡ mode_seen old.node.mode → Reaches node
  still node kept mode failures turns =
      leads_here (net_seen net) (world_seen stations sent) _
      (unseen stations k old (moved_to node failures turns old) there sent refl (ap record_seen kept) mode)

  -- a node afterwards, in which nothing is put or sent
  becomes : (node : NodeView) → node.kept ≡ old.node.kept → Reaches node
      → ProspectLeads net stations k old sent (becoming node)
  becomes node kept leads = record { leads = leads; silent = refl; keeps = λ e. kept }

  stays : ProspectLeads net stations k old sent (becoming old.node)
  stays = becomes old.node refl (still old.node refl refl)

  remembers : (change : RunningView → RunningView) → IsUnseen change
      → ProspectLeads net stations k old sent (remembering change old.node)
  remembers change leaves =
      becomes (on_running change old.node) refl
      (still (on_running change old.node) refl (mode_unseen change leaves old.node.mode))

  -- a record that is put, and nothing sent
  puts : (node : NodeView) → Reaches node → ProspectLeads net stations k old sent (putting false node)
  puts node leads = record { leads = leads; silent = refl; keeps = λ e. absurd (cc) }

  -- what is so of both that a test chooses from is so of the one that it chooses
  chosen : (b : Bool) (x y : Prospect) → (b ≡ true → ProspectLeads net stations k old sent x)
      → (b ≡ false → ProspectLeads net stations k old sent y) → ProspectLeads net stations k old sent (cond b x y)
  chosen true x y one other = one refl
  chosen false x y one other = other refl

  -- ---- what was kept for good

  kept_cuts : (c m : ℕ) → WasSent sent (Kept c m) → runs_between net k from c ≡ true
      → ProspectLeads net stations k old sent (remembering (cut_at c m) old.node)
  kept_cuts c m came runs =
      becomes (on_running (cut_at c m) old.node) refl (λ failures turns. elim (cuts old.node.mode) [
        | inl same ↦ still (on_running (cut_at c m) old.node) refl same failures turns
        | inr heard ↦
            let new = moved_to (on_running (cut_at c m) old.node) failures turns old in
            leads_by (net_seen net) (world_seen stations sent) _
            (hears stations k old new there (net_seen net) sent (outlets_same stations k old new there refl) (Kept c m)
            came heard)
      ])
    where
      cuts : (mode : ModeView) → (mode_seen (on_mode (cut_at c m) mode) ≡ mode_seen mode)
          ⊎ HearsKept (net_seen net) k (seen old.node.kept mode) (seen old.node.kept (on_mode (cut_at c m) mode)) c m
      cuts Down = inl refl
      cuts InDoubt = inl refl
      cuts (Runs running) = elim (within_or_out (base_of running.current c) m (sent_of running.current c)) [
        | inr out ↦ inl (rw (cut_unseen m c running.current out) refl)
        | inl within ↦ inr (record {
          to = from;
          cross = between_cross net k from c runs;
          before = image_seen running.current;
          later = image_seen (trimmed_image c m running.current);
          live = option_map live_seen running.live;
          trims = cut_trims m c running.current (record_seen old.node.kept) (option_map live_seen running.live)
              (outlets_seen stations) within.0 within.1;
        })
      ]

  -- ---- answers to what was asked

  live_runs : (mode : ModeView) (live : LiveView) → live_in mode ≡ Some live
      → (running : RunningView) × (mode ≡ Runs running) × (running.live ≡ Some live)
  live_runs mode live is = grind arith

  gives_up : (live : LiveView) → live_in old.node.mode ≡ Some live → IsHeld k live.number old.node.kept.tentative
      → ProspectLeads net stations k old sent (give_up_prospect old.node)
  gives_up live is at =
      let runs = live_runs old.node.mode live is in
      puts _ (λ failures turns.
      give_up_leads net stations k old there sent failures turns runs.0 runs.1 live runs.2 at)

  held_of : (n : ℕ) (live : LiveView) → live.number ≡ n → holds k n old.node.kept.tentative ≡ true
      → IsHeld k live.number old.node.kept.tentative
  held_of n live number held = rw number (held_where k n old.node.kept.tentative held)

  refusal : (n : ℕ) → ProspectLeads net stations k old sent (refused_prospect k n old.node)
  refusal n =
      chosen (loses k n old.node) _ _ (λ e.
      let parts = both_true (is_live n (live_in old.node.mode)) (holds k n old.node.kept.tentative) e in
      let live = of_live (live_in old.node.mode) parts.0 in
      gives_up live.0 live.1 (held_of n live.0 live.2 parts.1)) (λ e. stays)
    where
      of_live : (o : Option LiveView) → is_live n o ≡ true → (live : LiveView) × (o ≡ Some live) × (live.number ≡ n)
      of_live o e = grind (arith, eqb-true)

  took : (n c m : ℕ) (needs : List Need) → WasSent sent (Took k n c m (need_of needs))
      → is_outgoing net from c ≡ true → list_all (λ (need : Need). is_incoming net from need.channel) needs ≡ true
      → ProspectLeads net stations k old sent (took_prospect net k from n c needs old.node)
  took n c m needs came outgoing incoming =
      by (answer_to_took net k n c needs old.node.kept (live_in old.node.mode)) refl
    where
      -- an answer that counts is to what was asked for the live checkpoint, while the node holds an image for it
      of_live : (o : Option LiveView) (answer : TookAnswer) → answer_to_took net k n c needs old.node.kept o ≡ answer
          → answer ≢ Ignores
          → (live : LiveView) × (o ≡ Some live) × (live.number ≡ n) × (was_asked c live.questions ≡ true)
          × (holds k n old.node.kept.tentative ≡ true)
          × (answer ≡ Joins → are_met net k needs old.node.kept.tentative ≡ true)
      of_live o answer is other = grind (arith, eqb-true)

      by : (answer : TookAnswer) → answer_to_took net k n c needs old.node.kept (live_in old.node.mode) ≡ answer
          → ProspectLeads net stations k old sent (took_by net k from c needs answer old.node)
      by Ignores is = stays
      by GivesUp is =
          let told = of_live (live_in old.node.mode) GivesUp is (λ same. cc) in
          gives_up told.0 told.1 (held_of n told.0 told.2 told.4)
      by Joins is = record {
        leads = λ failures turns.
            let told = of_live (live_in old.node.mode) Joins is (λ same. cc) in
            let runs = live_runs old.node.mode told.0 told.1 in
            let cross = goes_cross net from c valid outgoing in
            rw (runs.1, runs.2)
            (joined_leads net stations k old there sent failures turns runs.0 runs.1 told.0 runs.2 from c n m cross.0
            needs cross.1 (few_needs net from needs incoming) came (wide runs.0 told.0 runs.1 runs.2) told.2 told.3
            (held_where k n old.node.kept.tentative told.4) (told.5 refl));
        silent = refl;
        keeps = λ e. refl;
      }

  -- ---- an answer, and verdicts

  asked : (n c m : ℕ) → WasSent sent (Ask from n c m) → are_nodes net from k ≡ true → is_outgoing net k c ≡ true
      → ProspectLeads net stations k old sent
      (answering net k from n c m (answer_to_ask from n c m old.node.kept old.node.mode) old.node)
  asked n c m came nodes outgoing = record {
    leads = λ failures turns.
        let cross = goes_cross net k c valid outgoing in
        answer_leads net valid stations k old there sent from n c m cross.0 cross.1 came up (listed nodes) failures
        turns
        (answer_to_ask from n c m old.node.kept old.node.mode) (answer_tells from n c m old.node.kept old.node.mode);
    silent = refl;
    keeps = unput (answer_to_ask from n c m old.node.kept old.node.mode);
  }
    where
      unput : (answer : AskAnswer) → takes_now answer ≡ false
          → kept_then from n answer old.node.mode old.node.kept ≡ old.node.kept
      unput TakesNow e = absurd (cc)
      unput other e = refl

  -- the station as it was told, where it is the one that it was
  tells : (packets : List Datagram)
      → ((failures : ℕ) (turns : RoundTurns)
      → Leads (net_seen net) (world_seen (slice_set stations k (moved_to old.node failures turns old)) sent)
      (world_seen (slice_set stations k (moved_to old.node failures turns old)) (all_seen packets ++ sent)))
      → ProspectLeads net stations k old sent (telling packets old.node)
  tells packets leads = record {
    leads = λ failures turns.
        leads_from (net_seen net) (world_seen stations sent)
        (world_seen (slice_set stations k (moved_to old.node failures turns old)) sent) _
        (unseen stations k old (moved_to old.node failures turns old) there sent refl refl refl) (leads failures turns);
    silent = refl;
    keeps = λ e. refl;
  }

  committed : (n : ℕ) → WasSent sent (Commit from k n)
      → ProspectLeads net stations k old sent (commit_prospect net k from n old.node)
  committed n came =
      chosen (holds from n old.node.kept.tentative) _ _ (λ held. record {
        leads = λ failures turns. commit_leads net stations k old there sent up failures turns from n came held;
        silent = refl;
        keeps = λ e. absurd (cc);
      }) (λ free. tells (settled_packets k from n old.node.kept)
      (λ failures turns. confirm_leads net stations k old there sent up failures turns from n came free))

  ended : (n : ℕ) → WasSent sent (Ended from k n)
      → ProspectLeads net stations k old sent (ended_prospect net k from n old.node)
  ended n came =
      chosen (holds from n old.node.kept.tentative) _ _ (λ held. puts _ (λ failures turns.
      ended_leads net stations k old there sent up failures turns from n came held)) (λ free. stays)

  settled : (n : ℕ) → WasSent sent (Settled from k n)
      → ProspectLeads net stations k old sent (settled_prospect from n old.node)
  settled n came =
      chosen (names old.node.kept.decisions n from) _ _ (λ is. puts _ (λ failures turns.
      settled_leads net stations k old there sent up failures turns from n came)) (λ other. stays)

  -- ---- the sender of a channel restored an image

  undone : (c epoch count : ℕ) → ProspectLeads net stations k old sent (undone_prospect c epoch count old.node)
  undone c epoch count =
      by (answer_with c epoch count old.node.kept.epoch old.node.kept.tentative old.node.mode) refl
    where
      -- only a node that runs, and holds no image, goes back
      went : (held : Option Tentative) (mode : ModeView)
          → answer_with c epoch count old.node.kept.epoch held mode ≡ GoesBack
          → (running : RunningView) × (mode ≡ Runs running) × (held ≡ None)
      went held mode is = grind arith

      by : (answer : UndoneAnswer)
          → answer_with c epoch count old.node.kept.epoch old.node.kept.tentative old.node.mode ≡ answer
          → ProspectLeads net stations k old sent (undone_by c epoch answer old.node)
      by PassesOver is = stays
      by Notes is = remembers (noting_undone c epoch) (record { current = λ r. refl; live = λ r. refl })
      by GoesBack is = puts (gone_back c epoch old.node) (λ failures turns.
          let new = moved_to (gone_back c epoch old.node) failures turns old in
          let runs = went old.node.kept.tentative old.node.mode is in
          leads_by (net_seen net) (world_seen stations sent) _
          (acts stations k old new there (net_seen net) sent (outlets_same stations k old new there refl)
          (rw runs.1 (goes_back (net_seen net) k old.node.kept runs.0 c epoch (outlets_seen stations) runs.2))))

  -- ---- whatever comes, where its names are right, and what it says was sent

  pub hear_leads : (what : Body) → names_run net from k what ≡ true
      → ((told : Packet) → body_seen from k what ≡ Some told → WasSent sent told)
      → ProspectLeads net stations k old sent (hear_prospect net k from what old.node)
  hear_leads (says.Data channel position item) right was =
      remembers (hearing (says.Data channel position item)) (record { current = λ r. refl; live = λ r. refl })
  hear_leads (says.Ack channel epoch next) right was =
      remembers (hearing (says.Ack channel epoch next)) (record { current = λ r. refl; live = λ r. refl })
  hear_leads (says.Kept channel count) right was = kept_cuts channel count (was (Kept channel count) refl) right
  hear_leads (says.Ask n c m) right was =
      asked n c m (was (Ask from n c m) refl) (both_true (are_nodes net from k) (is_outgoing net k c) right).0
      (both_true (are_nodes net from k) (is_outgoing net k c) right).1
  hear_leads (says.Took n c m needs) right was =
      let all = list_all (λ (need : Need). is_incoming net from need.channel) needs in
      let parts = both_true (is_outgoing net from c) all
      (both_true (are_nodes net from k) (is_outgoing net from c && all) right).1 in
      took n c m needs (was (Took k n c m (need_of needs)) refl) parts.0 parts.1
  hear_leads (says.Covered n c m) right was =
      becomes (on_running (hearing_covered n c) old.node) refl
      (λ failures turns.
      covered_leads net stations k old there sent failures turns n c m (was (Covered k n c m) refl))
  hear_leads (says.Refused n c reason) right was = refusal n
  hear_leads (says.Query n) right was =
      tells (verdict_packets k from n old.node.kept (live_in old.node.mode))
      (λ failures turns.
      query_leads net stations k old there sent up failures turns from n (was (Query from k n) refl))
  hear_leads (says.Commit n) right was = committed n (was (Commit from k n) refl)
  hear_leads (says.Ended n) right was = ended n (was (Ended from k n) refl)
  hear_leads (says.Settled n) right was = settled n (was (Settled from k n) refl)
  hear_leads (says.Undone channel epoch count) right was = undone channel epoch count
