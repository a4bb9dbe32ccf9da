-- What is true of a station stays so as jobs are granted, and through its checkpoints.
use Rattle.std.proofs.Common.{◌≡◌, ℕ, ◌≤◌, List, ℤ, Option, Some, None, sym, subst, arith}
use Rattle.std.proofs.Math.Logic.{∥∥₁_map}
use Rattle.protocol.specs.Node.Common.{Network, sent_of, JobView, RunningNode, approximation, InboxesStand, IsJobOf}
use Rattle.protocol.specs.Node.Common.{DecisionView, with_decision, with_tentative, Tentative, IsBehind, next_job}
use Rattle.protocol_laws.specs.Node.LinkLaws.{links_kept}
use Rattle.protocol.specs.Node.Modes.{keeping}
use Rattle.protocol_laws.specs.Node.StepLaws.{lessened, reached_taken, reached_decide, reached_less, reached_grant}
use Rattle.protocol_laws.specs.Node.StepLaws.{on_taken, on_decide, on_less, on_grant}
use Rattle.protocol.specs.Node.Choosing.{after_grant}
use Rattle.protocol_laws.specs.Node.GrantLaws.{job_granted}
use Rattle.protocol_laws.specs.Node.ReleaseLaws.{beginning_stays}
use Rattle.protocol.specs.World.Common.{OutputView, HasCome, IsSound}

module _ (net : Network) (inputs : List (List ℤ)) (outputs : List OutputView) where
  come_taken : (x n : ℕ) (old : RunningNode) → HasCome net inputs old outputs
      → HasCome net inputs (keeping (with_tentative x n old.current old.kept) old) outputs
  come_taken x n old come = record {
    reached = reached_taken net inputs x n old come.reached;
    inboxes =
        subst (λ (m : ℕ). InboxesStand (approximation net inputs m) old.inboxes)
        (sym (on_taken net inputs x n old come.reached).same) come.inboxes;
    out = come.out;
    released =
        λ j p output channel h at from. beginning_stays net inputs old _ come.reached _ output.channel p output.taken
        (on_taken net inputs x n old come.reached) (come.released j p output channel h at from);
  }

  -- an image of what it has now is taken, of whatever instance
  pub taken_sound : (x n : ℕ) (old : RunningNode) → IsSound net inputs old outputs
      → IsSound net inputs (keeping (with_tentative x n old.current old.kept) old) outputs
  taken_sound x n old sound =
      record {
        listed = sound.listed;
        kept =
            record {
              laid_out = sound.kept.laid_out;
              counts = sound.kept.counts;
              logs = sound.kept.logs;
              links =
                  links_kept net old.kept.node old.version _ _ _ old sound.kept.links;
            };
        covered = λ j output h. let at =
            sound.covered j output h in record { no_gap = at.no_gap; covered = at.covered };
        come =
            ∥∥₁_map sound.come (come_taken x n old);
      }

  come_grant : (rooms : List ℕ) (job : Option JobView) (old : RunningNode) → next_job net inputs rooms old ≡ job
      → IsSound net inputs old outputs → HasCome net inputs old outputs
      → HasCome net inputs (after_grant job old) outputs
  come_grant rooms None old is sound come = come
  come_grant rooms (Some job) old is sound come = record {
    reached = reached_grant net inputs (Some job) old come.reached;
    inboxes =
        subst (λ (m : ℕ). InboxesStand (approximation net inputs m) old.inboxes)
        (sym (on_grant net inputs (Some job) old come.reached).same) come.inboxes;
    out = λ other h. subst (IsJobOf net inputs old.current old.inboxes) (same job other h)
        (job_granted net old.kept.node inputs rooms old job sound.kept.laid_out is);
    released =
        λ j p output channel h at from. beginning_stays net inputs old _ come.reached _ output.channel p output.taken
        (on_grant net inputs (Some job) old come.reached) (come.released j p output channel h at from);
  }
    where
      same : (a b : JobView) → Some a ≡ Some b → a ≡ b
      same a b e = cc

  -- whatever was granted
  pub granted_sound : (rooms : List ℕ) (job : Option JobView) (old : RunningNode) → next_job net inputs rooms old ≡ job
      → IsSound net inputs old outputs → IsSound net inputs (after_grant job old) outputs
  granted_sound rooms None old is sound = sound
  granted_sound rooms (Some job) old is sound =
      record {
        listed = sound.listed;
        kept =
            record {
              laid_out = sound.kept.laid_out;
              counts = sound.kept.counts;
              logs = sound.kept.logs;
              links =
                  links_kept net old.kept.node old.version _ _ _ old sound.kept.links;
            };
        covered = λ j output h. let at =
            sound.covered j output h in record { no_gap = at.no_gap; covered = at.covered };
        come =
            ∥∥₁_map sound.come (come_grant rooms (Some job) old is sound);
      }

  come_decide : (number : ℕ) (nodes : List ℕ) (old : RunningNode) → HasCome net inputs old outputs
      → HasCome net inputs (keeping (with_decision number nodes old.kept) old) outputs
  come_decide number nodes old come = record {
    reached = reached_decide net inputs number nodes old come.reached;
    inboxes =
        subst (λ (m : ℕ). InboxesStand (approximation net inputs m) old.inboxes)
        (sym (on_decide net inputs number nodes old come.reached).same) come.inboxes;
    out = come.out;
    released =
        λ j p output channel h at from. beginning_stays net inputs old _ come.reached _ output.channel p output.taken
        (on_decide net inputs number nodes old come.reached) (come.released j p output channel h at from);
  }

  -- its tentative image becomes permanent, whatever is decided
  pub decided_sound : (number : ℕ) (nodes : List ℕ) (old : RunningNode)
      → IsBehind old.kept.permanent (with_decision number nodes old.kept).permanent
      → IsSound net inputs old outputs
      → IsSound net inputs (keeping (with_decision number nodes old.kept) old) outputs
  decided_sound number nodes old ahead sound = record {
    listed = sound.listed;
    kept = record {
      laid_out = sound.kept.laid_out;
      counts = sound.kept.counts;
      logs = sound.kept.logs;
      links =
          links_kept net old.kept.node old.version _ _ _ old sound.kept.links;
    };
    covered = λ j output h.
        let at = sound.covered j output h in
        let more : sent_of old.kept.permanent output.channel
        ≤ sent_of (with_decision number nodes old.kept).permanent output.channel = ahead.sent output.channel in
        record { no_gap = at.no_gap; covered = omega (arith, at.covered, more) };
    come = ∥∥₁_map sound.come (come_decide number nodes old);
  }

  module _ (epoch : ℕ) (decisions : List DecisionView) (held : Option Tentative) (old : RunningNode)
      (still : (t : Tentative) → held ≡ Some t → old.kept.tentative ≡ Some t) where
    come_less : HasCome net inputs old outputs
        → HasCome net inputs (keeping (lessened epoch decisions held old.kept) old) outputs
    come_less come = record {
      reached = reached_less net inputs epoch decisions held old still come.reached;
      inboxes =
          subst (λ (m : ℕ). InboxesStand (approximation net inputs m) old.inboxes)
          (sym (on_less net inputs epoch decisions held old still come.reached).same) come.inboxes;
      out = come.out;
      released =
          λ j p output channel h at
          from. beginning_stays net inputs old _ come.reached _ output.channel p output.taken
          (on_less net inputs epoch decisions held old still come.reached) (come.released j p output channel h at from);
    }

    -- its tentative image stays or is dropped
    pub less_sound : IsSound net inputs old outputs
        → IsSound net inputs (keeping (lessened epoch decisions held old.kept) old) outputs
    less_sound sound = record {
      listed = sound.listed;
      kept = record {
        laid_out = sound.kept.laid_out;
        counts = sound.kept.counts;
        logs = sound.kept.logs;
        links =
            links_kept net old.kept.node old.version _ _ _ old sound.kept.links;
      };
      covered = λ j output h. let at = sound.covered j output h in
          record { no_gap = at.no_gap; covered = at.covered };
      come = ∥∥₁_map sound.come come_less;
    }
