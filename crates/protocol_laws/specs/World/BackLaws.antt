-- What a node makes of it that the sender of a channel restored an image is sound: it notes the epoch, or goes back to
-- its permanent image.
use Rattle.std.proofs.Common.{◌≡◌, ℕ, suc, ◌<◌, Bool, true, false, cond, eqb, List, ℤ, [], ◌∷◌, Option}
use Rattle.std.proofs.Common.{Some, None, option_map, refl, sym, ap, subst, ◌∙◌}
use Rattle.std.specs.Prelude.{find}
use Rattle.std.proofs.Math.Logic.{∥∥₁_map}
use Rattle.protocol.specs.Node.Common.{approximation, history_of, IsPrefix, Network, MAX_COUNT, Channel, LogState}
use Rattle.protocol.specs.Node.Common.{log_of, received_of, ImageView, with_epoch, RecordView, handled, noting_undone}
use Rattle.protocol.specs.Node.Common.{set_back_to, first_log, inbox_log, is_process, items_from, next_items, JobView}
use Rattle.protocol.specs.Node.Common.{next_number, Runs, RunningView, RunningNode, running_node, putting, IsJobOf}
use Rattle.protocol.specs.Node.Common.{LinksAreLaidOut, InboxIsSound, InboxesStand, InboxStands}
use Rattle.ckpt_codec.specs.Common.{without_own}
use Rattle.protocol.specs.Node.GoingBack.{handled_at, gone_back}
use Rattle.protocol.specs.Node.Granting.{items_by}
use Rattle.protocol_laws.specs.Node.ImageLaws.{map_got, map_keeps}
use Rattle.protocol_laws.specs.Node.RestoreLaws.{set_back_begin}
use Rattle.protocol.specs.World.Common.{outputs_of, RunsSoundly, StationInvariant, OutputView, RecordIsSound, HasCome}
use Rattle.protocol.specs.World.Common.{StationView}
use Rattle.protocol_laws.specs.World.MoveLaws.{changed_from, node_keeps}
use Rattle.protocol_laws.specs.World.OrderLaws.{behind_itself}
use Rattle.protocol_laws.specs.World.PlanLaws.{ProspectKeeps, runs_at}
use Rattle.protocol_laws.specs.World.RecordLaws.{record_epoch, restarts_soundly}
use Rattle.protocol.specs.declared.links.Inbox.{Inbox}

-- ---- an epoch is noted

-- the log of each channel stays
log_stays : (channel epoch : ℕ) (inboxes : List Inbox) (c : ℕ)
    → inbox_log (handled_at channel epoch inboxes) c ≡ inbox_log inboxes c
log_stays channel epoch [] c = refl
log_stays channel epoch (inbox ∷ inboxes) c = by (eqb inbox.channel c) (log_stays channel epoch inboxes c)
  where
    by : (b : Bool) → inbox_log (handled_at channel epoch inboxes) c ≡ inbox_log inboxes c
        → option_map (λ (i : Inbox). i.log) (cond b (Some (handled channel epoch inbox))
        (find (λ (i : Inbox). eqb i.channel c) (handled_at channel epoch inboxes)))
        ≡ option_map (λ (i : Inbox). i.log) (cond b (Some inbox)
        (find (λ (i : Inbox). eqb i.channel c) inboxes))
    by true rest = refl
    by false rest = rest

-- and so does what is at hand
hand_stays : (inputs : List (List ℤ)) (image : ImageView) (channel epoch : ℕ) (inboxes : List Inbox)
    (process number : ℕ) (channels : List Channel)
    → items_from inputs image (handled_at channel epoch inboxes) process number channels
    ≡ items_from inputs image inboxes process number channels
hand_stays inputs image channel epoch inboxes process number [] = refl
hand_stays inputs image channel epoch inboxes process number (x ∷ channels) =
    ap (λ (o : Option LogState). cond (is_process process x.consumer)
    (items_by inputs number x.producer (received_of image number) (first_log (log_of image number) o)) []
    ∷ items_from inputs image (handled_at channel epoch inboxes) process (suc number) channels)
    (log_stays channel epoch inboxes number)
    ∙ ap (λ (rest : List (List ℤ)).
    cond (is_process process x.consumer) (next_items inputs image inboxes number x.producer) [] ∷ rest)
    (hand_stays inputs image channel epoch inboxes process (suc number) channels)

module _ (net : Network) (inputs : List (List ℤ)) (channel epoch : ℕ) (kept : RecordView) (version : ℕ)
    (running : RunningView) (outputs : List OutputView) where
  abbrev was : RunningNode
  was = running_node kept version running

  abbrev now : RunningNode
  now = running_node kept version (noting_undone channel epoch running)

  links_noted : LinksAreLaidOut net kept.node was → LinksAreLaidOut net kept.node now
  links_noted links = record {
    incoming =
        map_keeps (λ (i : Inbox). i.channel) (handled channel epoch) running.inboxes (λ i. refl) ∙ links.incoming;
    outgoing = links.outgoing;
    inboxes = λ k inbox is. (
        let old = map_got (handled channel epoch) running.inboxes k inbox is in
        let sound = links.inboxes k old.0 old.1 in
        subst (InboxIsSound running.current) old.2 (record {
          begins = sound.begins;
          next = sound.next;
          count = sound.count;
          last = sound.last;
          epoch = sound.epoch;
        }));
    restored = links.restored;
  }

  inboxes_noted : (histories : List (List ℤ)) → InboxesStand histories running.inboxes
      → InboxesStand histories (handled_at channel epoch running.inboxes)
  inboxes_noted histories stand k inbox is =
      let old = map_got (handled channel epoch) running.inboxes k inbox is in
      let stands = stand k old.0 old.1 in
      subst (InboxStands histories) old.2
      (record { within = stands.within; items = stands.items; held = stands.held })

  job_noted : (job : JobView) → IsJobOf net inputs running.current running.inboxes job
      → IsJobOf net inputs running.current (handled_at channel epoch running.inboxes) job
  job_noted job of = record {
    process = of.process;
    code = of.code;
    items = λ c.
        subst (λ (items : List (List ℤ)). IsPrefix (history_of job.items c) (history_of items c))
        (sym (hand_stays inputs running.current channel epoch running.inboxes job.process 0 net.channels))
        (of.items c);
    room = of.room;
  }

  come_noted : HasCome net inputs was outputs → HasCome net inputs now outputs
  come_noted come = record {
    reached = record {
      n = come.reached.n;
      permanent_acts = come.reached.permanent_acts;
      held_acts = come.reached.held_acts;
      current_acts = come.reached.current_acts;
      permanent = come.reached.permanent;
      held = come.reached.held;
      current = come.reached.current;
      held_after = come.reached.held_after;
      current_after = come.reached.current_after;
    };
    inboxes = inboxes_noted (approximation net inputs come.reached.n) come.inboxes;
    out = λ job is. job_noted job (come.out job is);
    released = come.released;
  }

  pub noted_runs : RunsSoundly net inputs was outputs → RunsSoundly net inputs now outputs
  noted_runs runs = record {
    order = runs.order;
    sound = record {
      listed = runs.sound.listed;
      kept = record {
        laid_out = runs.sound.kept.laid_out;
        counts = runs.sound.kept.counts;
        logs = runs.sound.kept.logs;
        links = links_noted runs.sound.kept.links;
      };
      covered = λ j output is. (
          let covered = runs.sound.covered j output is in
          record { no_gap = covered.no_gap; covered = covered.covered });
      come = ∥∥₁_map runs.sound.come come_noted;
    };
  }

-- ---- a station goes back

module _ (net : Network) (inputs : List (List ℤ)) (old : StationView) (inv : StationInvariant net inputs old)
    (channel epoch : ℕ) where
  -- nothing is held, so nothing is in the next epoch
  free_then : old.node.kept.tentative ≡ None → (with_epoch old.node.kept).tentative ≡ None
  free_then free = ap (without_own old.node.kept.node) free

  pub goes_back_keeps : old.node.kept.tentative ≡ None → old.node.kept.epoch < MAX_COUNT
      → ProspectKeeps net inputs old (putting false (gone_back channel epoch old.node))
  goes_back_keeps free below = record {
    keeps = node_keeps net inputs old inv (gone_back channel epoch old.node) sound (λ later now.
        let before = changed_from (set_back_to kept channel epoch) old.node.mode later now in
        subst (λ (r : RunningView). RunsSoundly net inputs (running_node kept (next_number old.node.version) r)
        (outputs_of old.outlets)) before.2
        (restarts_soundly net inputs (outputs_of old.outlets) kept (next_number old.node.version)
        (set_back_to kept channel epoch before.0).inboxes (set_back_to kept channel epoch before.0).outboxes
        (set_back_begin net kept.node channel epoch kept before.0 (links before.0 before.1).incoming
        (links before.0 before.1).outgoing) (free_then free) sound));
    stays = λ none. absurd (cc);
    same_node = refl;
    ahead = behind_itself old.node.kept.permanent;
  }
    where
      kept : RecordView
      kept = with_epoch old.node.kept

      sound : RecordIsSound net inputs (with_epoch old.node.kept) (outputs_of old.outlets)
      sound = record_epoch net inputs (outputs_of old.outlets) old.node.kept below inv.kept

      links : (running : RunningView) → old.node.mode ≡ Runs running
          → LinksAreLaidOut net old.node.kept.node (running_node old.node.kept old.node.version running)
      links running is = (runs_at net inputs old inv running is).sound.kept.links
