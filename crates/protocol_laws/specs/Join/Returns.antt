-- A node that comes back, or goes back to its permanent image, makes a step of the abstract machine.
use Rattle.std.proofs.Common.{◌≡◌, ℕ, Bool, true, false, cond, List, Option, Some, None, option_map, refl, sym, ap}
use Rattle.std.proofs.Common.{subst}
use Rattle.std.proofs.Common.{◌∙◌}
use Rattle.std.specs.Prelude.{◌≢◌, ◌==◌, nat_lt, not, slice_get}
use Rattle.std.proofs.lemmas.Bool.{eqb-true, eq-eqb}
use Rattle.protocol.specs.Node.Common.{Network, MAX_COUNT, with_epoch, RecordView, set_back_to, is_down, crashed}
use Rattle.protocol.specs.Node.Common.{ModeView, Down, InDoubt, Runs, RunningView, becoming, if_due, putting}
use Rattle.protocol.specs.Node.Common.{unless_spent, recover_prospect, restored, restored_mode}
use Rattle.ckpt_codec.specs.Common.{without_own}
use Rattle.record.specs.declared.record.Tentative.{Tentative as HeldImage}
use Rattle.recovery_line.proofs.Basics.{some_not_none, one_inside}
use Rattle.recovery_line.proofs.Observing.{epoch_drops_own, epoch_is_not_seen}
use Rattle.protocol.specs.World.Common.{Net, Mode, NodeStep, image_seen, record_seen, Packet, live_seen, mode_seen}
use Rattle.protocol.specs.World.Common.{node_seen, world_seen, net_seen, outlets_seen, StationView, moved_to}
use Rattle.recovery_line.specs.Nodes.{Restore, Forget, Doubt, Roll_back}
use Rattle.recovery_line.specs.Observers.{tentative_seen}
use Rattle.protocol_laws.specs.Join.Leading.{leads_by, acts, outlets_same}
use Rattle.protocol_laws.specs.Join.Plans.{falls_leads, ProspectLeads}
use Rattle.protocol.specs.Node.Recovering.{crash_prospect, restored_with}

module _ (network : Network) (net : Net) (k : ℕ) (kept : RecordView) (left : ℕ → ℕ) (home : kept.node ≡ k) where
  mode_back : (o : Option HeldImage) → kept.tentative ≡ o
      → mode_seen (restored_mode network k (with_epoch kept))
      ≡ mode_seen (restored_with network k (with_epoch kept) (without_own kept.node o))
  mode_back o is =
      ap (λ (t : Option HeldImage). mode_seen (restored_with network k (with_epoch kept) (without_own kept.node t))) is

  -- whatever it held
  pub comes_back : NodeStep net k (record { disk = record_seen kept; mode = Mode.Down; outlets = left })
      (record {
        disk = record_seen (with_epoch kept);
        mode = mode_seen (restored_mode network k (with_epoch kept));
        outlets = left;
      })
  comes_back = by kept.tentative refl
    where
      by_own : (held : HeldImage) → kept.tentative ≡ Some held → (b : Bool) → (held.initiator == kept.node) ≡ b
          → NodeStep net k (record { disk = record_seen kept; mode = Mode.Down; outlets = left })
          (record {
            disk = record_seen (with_epoch kept);
            mode = mode_seen (restored_mode network k (with_epoch kept));
            outlets = left;
          })
      by_own held is true own =
          let initiator : held.initiator ≡ kept.node = eqb-true held.initiator kept.node own in
          Forget held.initiator held.number (image_seen held.image) (record {
            own = initiator ∙ home;
            drops = epoch_drops_own kept held is initiator;
            was = refl;
            now = mode_back (Some held) is
                ∙ ap (λ (b : Bool). mode_seen (restored_with network k (with_epoch kept) (cond b None (Some held)))) own;
            outlets = refl;
          })
      by_own held is false other =
          let apart : held.initiator ≢ kept.node = λ e. (let own : (held.initiator == kept.node) ≡ true =
          eq-eqb held.initiator kept.node e in cc) in
          Doubt held.initiator held.number (image_seen held.image) (record {
            same = record {
              disk = epoch_is_not_seen kept
                  (λ h at. subst (λ (x : HeldImage). x.initiator ≢ kept.node) (one_inside is at) apart);
              outlets = refl;
            };
            was = refl;
            other = λ e. apart (e ∙ sym home);
            held = ap tentative_seen is;
            now = mode_back (Some held) is
                ∙ ap (λ (b : Bool). mode_seen (restored_with network k (with_epoch kept) (cond b None (Some held)))) other;
          })

      by : (o : Option HeldImage) → kept.tentative ≡ o
          → NodeStep net k (record { disk = record_seen kept; mode = Mode.Down; outlets = left })
          (record {
            disk = record_seen (with_epoch kept);
            mode = mode_seen (restored_mode network k (with_epoch kept));
            outlets = left;
          })
      by None is = Restore (record {
        same = record { disk = epoch_is_not_seen kept (λ h at. absurd (some_not_none is at)); outlets = refl };
        was = refl;
        free = ap tentative_seen is;
        now = mode_back None is;
      })
      by (Some held) is = by_own held is (held.initiator == kept.node) refl

-- a node that holds nothing goes back to its permanent image
pub goes_back : (net : Net) (k : ℕ) (kept : RecordView) (running : RunningView) (channel epoch : ℕ) (left : ℕ → ℕ)
    → kept.tentative ≡ None
    → NodeStep net k (record { disk = record_seen kept; mode = mode_seen (Runs running); outlets = left })
    (record {
      disk = record_seen (with_epoch kept);
      mode = mode_seen (Runs (set_back_to (with_epoch kept) channel epoch running));
      outlets = left;
    })
goes_back net k kept running channel epoch left free =
    Roll_back (image_seen running.current) (option_map live_seen running.live) (record {
      same = record { disk = epoch_is_not_seen kept (λ h is. absurd (some_not_none free is)); outlets = refl };
      was = refl;
      free = ap tentative_seen free;
      now = refl;
    })

module _ (net : Network) (stations : List StationView) (k : ℕ) (old : StationView)
    (there : slice_get stations k ≡ Some old) (sent : List Packet) where
  pub crash_leads : (restart : ℕ) → ProspectLeads net stations k old sent (crash_prospect restart old.node)
  crash_leads restart = by (is_down old.node.mode)
    where
      by : (down : Bool)
          → ProspectLeads net stations k old sent
          (if_due (not down) (becoming (crashed restart old.node)))
      by true = tt
      by false = record {
        leads = λ failures turns. falls_leads net stations k old there sent restart failures turns;
        silent = refl;
        keeps = λ e. refl;
      }

  pub recover_leads : old.node.kept.node ≡ k → ProspectLeads net stations k old sent (recover_prospect net k old.node)
  recover_leads home = by (is_down old.node.mode) refl (nat_lt old.node.kept.epoch MAX_COUNT)
    where
      down_seen : (mode : ModeView) → is_down mode ≡ true → mode_seen mode ≡ Mode.Down
      down_seen Down is = refl
      down_seen InDoubt is = absurd (cc)
      down_seen (Runs running) is = absurd (cc)

      by : (down : Bool) → is_down old.node.mode ≡ down → (less : Bool)
          → ProspectLeads net stations k old sent
          (if_due down (unless_spent true less (putting false (restored net k old.node))))
      by false is less = tt
      by true is false = tt
      by true is true = record {
        leads = λ failures turns.
            let new = moved_to (restored net k old.node) failures turns old in
            leads_by (net_seen net) (world_seen stations sent) _
            (acts stations k old new there (net_seen net) sent (outlets_same stations k old new there refl)
            (subst (λ (mode : Mode). NodeStep (net_seen net) k
            (record { disk = record_seen old.node.kept; mode = mode; outlets = outlets_seen stations })
            (node_seen new (outlets_seen stations))) (sym (down_seen old.node.mode is))
            (comes_back net (net_seen net) k old.node.kept (outlets_seen stations) home)));
        silent = refl;
        keeps = λ e. absurd (cc);
      }
