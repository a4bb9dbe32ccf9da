-- The events that begin and end a checkpoint, and those of which nothing is seen, are steps of the abstract machine.
use Rattle.std.proofs.Common.{◌≡◌, ℕ, ◌<◌, Bool, true, false, List, length, Option, Some, None, refl, sym, ap, subst}
use Rattle.std.proofs.Common.{◌∙◌, arith}
use Rattle.std.proofs.Common.{[], ◌++◌}
use Rattle.std.specs.Prelude.{nat_lt, slice_get, slice_set}
use Rattle.std.proofs.lemmas.Option.{slice_get_within}
use Rattle.protocol.specs.Node.Common.{node_count, Network, IsValid, MAX_COUNT, highest_seen, live_in, live_asks}
use Rattle.protocol.specs.Node.Common.{may_start, begun, start_prospect, may_decide, concluded, decide_prospect}
use Rattle.protocol.specs.Node.Common.{granted, grant_prospect, with_grant, JobView, LiveView, NodeView, ModeView}
use Rattle.protocol.specs.Node.Common.{Down, InDoubt, Runs, RunningView, Planned, becoming, if_due, unless_spent}
use Rattle.protocol.specs.World.Common.{record_seen, Packet, Reachable, IsJoined, Leads, mode_seen, all_seen}
use Rattle.protocol.specs.World.Common.{world_seen, net_seen, StationView, moved_to}
use Rattle.protocol.specs.Node.Verdicts.{commit_packets}
use Rattle.protocol_laws.specs.Join.Concludes.{conclude_by}
use Rattle.protocol_laws.specs.Join.Hears.{mode_unseen}
use Rattle.protocol_laws.specs.Join.Leading.{leads_here, unseen}
use Rattle.protocol_laws.specs.Join.Plans.{ProspectLeads}
use Rattle.protocol_laws.specs.Join.Starts.{begin_leads}

module _ (net : Network) (stations : List StationView) (k : ℕ) (old : StationView)
    (there : slice_get stations k ≡ Some old) (sent : List Packet) where
  -- a node that is seen as it was
  pub same_leads : (node : NodeView) → node.kept ≡ old.node.kept → mode_seen node.mode ≡ mode_seen old.node.mode
      → ProspectLeads net stations k old sent (becoming node)
  same_leads node kept mode = record {
    leads = λ failures turns.
        leads_here (net_seen net) (world_seen stations sent) _
        (unseen stations k old (moved_to node failures turns old) there sent refl (ap record_seen kept) mode);
    silent = refl;
    keeps = λ e. kept;
  }

  pub grant_leads : (job : Option JobView) → ProspectLeads net stations k old sent (grant_prospect job old.node)
  grant_leads None = tt
  grant_leads (Some job) =
      same_leads (with_grant (Some job) old.node) refl
      (mode_unseen (granted (Some job)) (record { current = λ r. refl; live = λ r. refl }) old.node.mode)

  module _ (reached : Reachable (net_seen net) (world_seen stations sent)) (count : length stations ≡ node_count net)
      (joined : IsJoined net old) where
    here_below : k < length old.node.kept.highest
    here_below =
        let within = slice_get_within stations k old there in
        let listed = joined.kept.listed in
        omega (arith, within, listed, count)

    pub starts_lead : IsValid net → ProspectLeads net stations k old sent (start_prospect net k old.node)
    starts_lead valid = by (may_start old.node) refl (nat_lt (highest_seen k old.node.kept) MAX_COUNT)
      where
        by : (due : Bool) → may_start old.node ≡ due → (less : Bool)
            → ProspectLeads net stations k old sent
            (if_due due (unless_spent false less (Planned (record {
              node = begun net k old.node;
              puts = true;
              grows = true;
              packets = live_asks net k (live_in (begun net k old.node).mode);
              refused = [];
            }))))
        by false is less = tt
        by true is false = tt
        by true is true = record {
          leads = λ failures turns.
              begin_leads net valid stations k old there sent reached is here_below failures turns;
          silent = refl;
          keeps = λ e. absurd (cc);
        }

    pub concludes_lead : ProspectLeads net stations k old sent (decide_prospect k old.node)
    concludes_lead = by (live_in old.node.mode) refl (may_decide k old.node.kept (live_in old.node.mode)) refl
      where
        runs : (mode : ModeView) (live : LiveView) → live_in mode ≡ Some live
            → (running : RunningView) × (mode ≡ Runs running) × (running.live ≡ Some live)
        runs Down live is = absurd (cc)
        runs InDoubt live is = absurd (cc)
        runs (Runs running) live is = (running, refl, is)

        by : (o : Option LiveView) → live_in old.node.mode ≡ o → (ready : Bool)
            → may_decide k old.node.kept (live_in old.node.mode) ≡ ready
            → ProspectLeads net stations k old sent
            (if_due ready (Planned (record {
              node = concluded old.node;
              puts = true;
              grows = false;
              packets = commit_packets k (length old.node.kept.highest) (live_in old.node.mode);
              refused = [];
            })))
        by o is false ready = tt
        by None is true ready =
            absurd (let bad : may_decide k old.node.kept None ≡ true =
            ap (may_decide k old.node.kept) (sym is) ∙ ready in cc)
        by (Some live) is true ready = record {
          leads = λ failures turns.
              let at = runs old.node.mode live is in
              let enough : may_decide k old.node.kept (Some live) ≡ true =
              ap (may_decide k old.node.kept) (sym is) ∙ ready in
              let listed : length old.node.kept.highest ≡ length stations =
              (let one = joined.kept.listed in omega (arith, one, count)) in
              subst (λ (o : Option LiveView). Leads (net_seen net) (world_seen stations sent)
              (world_seen (slice_set stations k (moved_to (concluded old.node) failures turns old))
              (all_seen (commit_packets k (length old.node.kept.highest) o) ++ sent))) (sym is)
              (conclude_by net stations k old there sent reached listed at.0 at.1 live at.2 enough failures turns);
          silent = refl;
          keeps = λ e. absurd (cc);
        }
