-- What is true of a record stays so: as images are taken and become permanent, as items leave, and over a crash.
use Rattle.std.proofs.Common.{◌≡◌, ℕ, ◌+◌, ◌<◌, ◌≤◌, ℤ, List, length, take, Option, Some, None, refl, sym, ap, ◌∙◌}
use Rattle.std.proofs.Common.{arith}
use Rattle.std.specs.Prelude.{slice_get}
use Rattle.std.proofs.Math.Logic.{∥∥₁_map}
use Rattle.std.proofs.lemmas.List.{take-take}
use Rattle.protocol.specs.Node.Common.{MAX_COUNT, IsPrefix, Network, sent_on, approximation, ImageView}
use Rattle.protocol.specs.Node.Common.{RecordView, DecisionView, with_decision, with_epoch, with_tentative, Tentative}
use Rattle.protocol.specs.Node.Common.{MAX_RETAINED_ITEMS, RunningNode, ImageStands, acts_of, AreInOrder, IsBehind}
use Rattle.kahn_net.specs.Laws.Prefixes.{prefix_trans}
use Rattle.ckpt_codec.specs.Common.{last_image, without_own}
use Rattle.ckpt_codec.specs.SizeLaws.{IsRecordWithin, within_epoch}
use Rattle.protocol_laws.specs.Node.ReleaseLaws.{acts_grow}
use Rattle.protocol_laws.specs.Node.SentLaws.{sent_stands}
use Rattle.protocol_laws.specs.Node.RestoreLaws.{BeginAnew, anew_node, inboxes_anew, links_anew}
use Rattle.protocol_laws.specs.Node.StepLaws.{lessened}
use Rattle.protocol_laws.specs.World.OrderLaws.{behind_itself}
use Rattle.protocol.specs.Node.Reached.{IsAsFar}
use Rattle.protocol.specs.World.Common.{RunsSoundly, OutputView, RecordIsSound, HasCome, IsSound}
use Rattle.protocol.specs.World.RecordSound.{ImageIsSound, RecordHasCome}
use Rattle.protocol_laws.specs.World.OutputLaws.{output_from}
use Rattle.protocol.specs.declared.links.Inbox.{Inbox}
use Rattle.protocol.specs.declared.links.Outbox.{Outbox}

-- of two beginnings of one list, the shorter is a beginning of the longer
prefix_within : (xs ys zs : List ℤ) → IsPrefix xs zs → IsPrefix ys zs → length xs ≤ length ys → IsPrefix xs ys
prefix_within xs ys zs a b shorter =
    a ∙ (sym (take-take (length xs) (length ys) zs shorter) ∙ ap (take (length xs)) (sym b))

module _ (net : Network) (inputs : List (List ℤ)) (outputs : List OutputView) where
  -- what a node that runs has now may be taken
  pub current_sound : (node : RunningNode) → IsSound net inputs node outputs
      → ImageIsSound net node.kept.node inputs node.current outputs
  current_sound node sound =
      let gap = λ (j : ℕ) (output : OutputView) (is : slice_get outputs j ≡ Some output). (sound.covered j output is).no_gap in
      search (sound.kept, gap)

  -- so the record of a node that runs is sound where its images are, and it is within bounds
  pub record_of : (node : RunningNode) → node.kept.epoch ≤ MAX_COUNT → IsRecordWithin MAX_RETAINED_ITEMS node.kept
      → ImageIsSound net node.kept.node inputs node.kept.permanent outputs
      → ((tentative : Tentative) → node.kept.tentative ≡ Some tentative
      → ImageIsSound net node.kept.node inputs tentative.image outputs) → AreInOrder node.kept node.current
      → IsSound net inputs node outputs → RecordIsSound net inputs node.kept outputs
  record_of node few bounded permanent held order sound = record {
    listed = sound.listed;
    permanent = permanent;
    held = held;
    ahead = order.held_ahead;
    covered = λ j output is. (sound.covered j output is).covered;
    epoch = few;
    bounded = bounded;
    come = ∥∥₁_map sound.come come_of;
  }
    where
      -- what has left is a beginning of what was put up to the permanent image
      come_of : HasCome net inputs node outputs → RecordHasCome net inputs node.kept outputs
      come_of come =
          let reached = come.reached in
          let histories = approximation net inputs reached.n in
          record {
            n = reached.n;
            permanent_acts = reached.permanent_acts;
            held_acts = reached.held_acts;
            permanent = reached.permanent;
            held = reached.held;
            held_after = reached.held_after;
            released = λ j p output channel is on from. (
                let before = sent_on output.channel (acts_of net histories reached.permanent_acts p) in
                let now = sent_on output.channel (acts_of net histories reached.current_acts p) in
                let count = sent_stands net node.kept.node histories reached.permanent_acts node.kept.permanent
                output.channel p channel reached.permanent permanent.laid_out on from
                (output_from net node.kept.node outputs sound.listed j output is p channel on from) in
                let few = (sound.covered j output is).covered in
                let far : reached.permanent_acts p ≤ reached.current_acts p =
                (let a = reached.held_after p in let b = reached.current_after p in omega (arith, a, b)) in
                prefix_within output.taken before now (come.released j p output channel is on from)
                (acts_grow net histories reached.permanent_acts reached.current_acts output.channel p far)
                (omega (arith, few, count)));
          }

  -- an image is taken, of whatever instance
  pub record_taken : (x n : ℕ) (kept : RecordView) (image : ImageView)
      → ImageIsSound net kept.node inputs image outputs
      → (tentative : Tentative) → (with_tentative x n image kept).tentative ≡ Some tentative
      → ImageIsSound net kept.node inputs tentative.image outputs
  record_taken x n kept image sound tentative is =
      let same : image ≡ tentative.image = cc in
      rw (← same) sound

  -- the last image of a record
  last_sound : (kept : RecordView) → RecordIsSound net inputs kept outputs → (o : Option Tentative)
      → kept.tentative ≡ o → ImageIsSound net kept.node inputs (last_image kept.permanent o) outputs
  last_sound kept sound None is = sound.permanent
  last_sound kept sound (Some held) is = sound.held held is

  pub last_more : (kept : RecordView) → RecordIsSound net inputs kept outputs → (o : Option Tentative)
      → kept.tentative ≡ o → IsBehind kept.permanent (last_image kept.permanent o)
  last_more kept sound None is = behind_itself kept.permanent
  last_more kept sound (Some held) is = sound.ahead held is

  module _ (number : ℕ) (nodes : List ℕ) where
    -- a last image stands as the permanent one where it isn't behind that
    come_moved : (kept : RecordView) (come : RecordHasCome net inputs kept outputs) (acts : ℕ → ℕ)
        → ImageStands net (approximation net inputs come.n) acts (last_image kept.permanent kept.tentative)
        → IsAsFar come.permanent_acts acts → RecordHasCome net inputs (with_decision number nodes kept) outputs
    come_moved kept come acts stands far = record {
      n = come.n;
      permanent_acts = acts;
      held_acts = acts;
      permanent = stands;
      held = λ tentative e. absurd (cc);
      held_after = λ p. omega arith;
      released = λ j p output channel there on from.
          prefix_trans output.taken _ _ (come.released j p output channel there on from)
          (acts_grow net (approximation net inputs come.n) come.permanent_acts acts output.channel p (far p));
    }

    come_decided : (kept : RecordView) → (o : Option Tentative) → kept.tentative ≡ o
        → RecordHasCome net inputs kept outputs → RecordHasCome net inputs (with_decision number nodes kept) outputs
    come_decided kept None is come = come_moved kept come come.permanent_acts (rw is come.permanent) (λ p. omega arith)
    come_decided kept (Some held) is come =
        come_moved kept come come.held_acts (rw is (come.held held is)) come.held_after

    -- the tentative image becomes permanent, whatever is decided
    pub record_decided : (kept : RecordView)
        → IsRecordWithin MAX_RETAINED_ITEMS (with_decision number nodes kept) → RecordIsSound net inputs kept outputs
        → RecordIsSound net inputs (with_decision number nodes kept) outputs
    record_decided kept bounded sound = record {
      listed = sound.listed;
      permanent = last_sound kept sound kept.tentative refl;
      held = λ tentative e. absurd (cc);
      ahead = λ tentative e. absurd (cc);
      covered = λ j output is. (
          let few = sound.covered j output is in
          let more = (last_more kept sound kept.tentative refl).sent output.channel in
          omega (arith, few, more));
      epoch = sound.epoch;
      bounded = bounded;
      come = ∥∥₁_map sound.come (come_decided kept kept.tentative refl);
    }

  -- the tentative image stays or is dropped
  module _ (epoch : ℕ) (decisions : List DecisionView) (held : Option Tentative) (kept : RecordView)
      (still : (t : Tentative) → held ≡ Some t → kept.tentative ≡ Some t) where
    come_less : RecordHasCome net inputs kept outputs
        → RecordHasCome net inputs (lessened epoch decisions held kept) outputs
    come_less come =
        let same = λ (tentative : Tentative) (is : held ≡ Some tentative). come.held tentative (still tentative is) in
        search (come, same)

    pub record_less : epoch ≤ MAX_COUNT → IsRecordWithin MAX_RETAINED_ITEMS (lessened epoch decisions held kept)
        → RecordIsSound net inputs kept outputs
        → RecordIsSound net inputs (lessened epoch decisions held kept) outputs
    record_less few bounded sound =
        let images = λ (tentative : Tentative) (is : held ≡ Some tentative). sound.held tentative (still tentative is) in
        let ahead = λ (tentative : Tentative) (is : held ≡ Some tentative). sound.ahead tentative (still tentative is) in
        let come = ∥∥₁_map sound.come come_less in
        search (sound, images, ahead, come)

  -- a new epoch
  pub record_epoch : (kept : RecordView) → kept.epoch < MAX_COUNT → RecordIsSound net inputs kept outputs
      → RecordIsSound net inputs (with_epoch kept) outputs
  record_epoch kept below sound =
      record_less (kept.epoch + 1) kept.decisions (without_own kept.node kept.tentative) kept
      (λ tentative is. grind arith) (omega (arith, below)) (within_epoch MAX_RETAINED_ITEMS kept sound.bounded) sound

  -- ---- a node that starts again

  pub restarted_order : (kept : RecordView) → kept.tentative ≡ None → AreInOrder kept kept.permanent
  restarted_order kept free = record {
    current_ahead = behind_itself kept.permanent;
    held_ahead = λ held is. absurd (cc);
    held_behind = λ held is. absurd (cc);
  }

  module _ (kept : RecordView) (version : ℕ) (inboxes : List Inbox) (outboxes : List Outbox)
      (anew : BeginAnew net kept.node kept inboxes outboxes) (free : kept.tentative ≡ None)
      (sound : RecordIsSound net inputs kept outputs) where
    abbrev pub restarted : RunningNode
    restarted = anew_node net inputs kept version inboxes outboxes anew sound.permanent.laid_out

    come_restarted : RecordHasCome net inputs kept outputs → HasCome net inputs restarted outputs
    come_restarted come = record {
      reached = record {
        n = come.n;
        permanent_acts = come.permanent_acts;
        held_acts = come.permanent_acts;
        current_acts = come.permanent_acts;
        permanent = come.permanent;
        held = λ tentative is. absurd (cc);
        current = come.permanent;
        held_after = λ p. omega arith;
        current_after = λ p. omega arith;
      };
      inboxes = inboxes_anew net inputs kept version inboxes outboxes anew sound.permanent.laid_out come.n
          come.permanent_acts come.permanent;
      out = λ job is. absurd (cc);
      released = come.released;
    }

    pub restarted_sound : IsSound net inputs restarted outputs
    restarted_sound = record {
      listed = sound.listed;
      kept = record {
        laid_out = sound.permanent.laid_out;
        counts = sound.permanent.counts;
        logs = sound.permanent.logs;
        links = links_anew net inputs kept version inboxes outboxes anew sound.permanent.laid_out sound.permanent.counts
            sound.permanent.logs sound.epoch;
      };
      covered = λ j output is. record { no_gap = sound.permanent.no_gap j output is; covered = sound.covered j output is };
      come = ∥∥₁_map sound.come come_restarted;
    }

    pub restarts_soundly : RunsSoundly net inputs restarted outputs
    restarts_soundly = record { order = restarted_order kept free; sound = restarted_sound }
