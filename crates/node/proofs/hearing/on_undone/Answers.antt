use Rattle.std.proofs.Common.{◌≡◌, ◌≤◌, Bool, true, false, cond, ℕ, Option, Some, None, ap, refl, subst, sym, ◌∙◌, arith}
use Rattle.std.specs.Prelude.{nat_lt}
use Rattle.std.proofs.lemmas.Bool.{ltb-true}
use Rattle.protocol.specs.Node.Common.{MAX_COUNT, received_of, ImageView, RecordView, Tentative, GoesBack, Notes}
use Rattle.protocol.specs.Node.Common.{PassesOver, ModeView, Down, InDoubt, Runs}
use Rattle.ckpt_store.proofs.Room.{epoch_fits}
use Rattle.ckpt_store.specs.declared.fault.StoreFault.TheVariants as fault
use Rattle.protocol.specs.Node.GoingBack.{answer_at, answer_with, inbox_of}
use Rattle.protocol.specs.declared.links.Inbox.{Inbox}
use Rattle.node.specs.NodeView.{node_view}
use Rattle.node.specs.Planned.{CanDo}
use Rattle.std.proofs.lemmas.Grind.{elements}
use Rattle.node.proofs.hearing.on_undone.Goals as goal

-- a node goes back only where it has a next epoch
back_at : (epoch sent own : ℕ) (o : Option Inbox) → answer_at epoch sent own o ≡ GoesBack → nat_lt own MAX_COUNT ≡ true
back_at epoch sent own None is = absurd (cc)
back_at epoch sent own (Some inbox) is =
    at (nat_lt inbox.undone epoch) (nat_lt sent inbox.window.next) (nat_lt own MAX_COUNT) is
  where
    at : (news ahead less : Bool) → cond news (cond ahead (cond less GoesBack PassesOver) Notes) PassesOver ≡ GoesBack
        → less ≡ true
    at false ahead less is = absurd (cc)
    at true false less is = absurd (cc)
    at true true false is = absurd (cc)
    at true true true is = refl

below : (channel epoch sent own : ℕ) (held : Option Tentative) (mode : ModeView)
    → answer_with channel epoch sent own held mode ≡ GoesBack → nat_lt own MAX_COUNT ≡ true
below channel epoch sent own (Some held) mode is = absurd (cc)
below channel epoch sent own None Down is = absurd (cc)
below channel epoch sent own None InDoubt is = absurd (cc)
below channel epoch sent own None (Runs running) is = back_at epoch sent own (inbox_of running.inboxes channel) is

pub returns-in_ok-copy-in-GoesBack-clause-can : goal.returns-in_ok-copy-in-GoesBack-clause-can
returns-in_ok-copy-in-GoesBack-clause-can c =
    let kept = c.args.kept.now in
    let has = below c.args.channel c.args.epoch c.args.sent kept.epoch kept.tentative _ (sym c.in-GoesBack.ensures) in
    let less = ltb-true kept.epoch MAX_COUNT has in
    let inside : kept.epoch ≡ c.kept.inside.epoch = ap (λ (r : RecordView). r.epoch) (sym c.kept.view_is) in
    subst (CanDo (node_view kept c.args.state.now)) (sym c.putting.ensures.0) (record {
      up = c.requires.up;
      may_be_put = tt;
      fine = ap (λ (b : Bool). cond b None (Some fault.Spent)) has;
      may_follow = (
        λ channel. subst (λ (i : ImageView). received_of i channel ≤ MAX_COUNT)
            (ap (λ (r : RecordView). r.permanent) (sym c.kept.view_is) ∙ sym c.in_ok-copy-in-GoesBack.ensures)
            (c.requires.counts.permanent channel),
        omega (arith, less, inside),
      );
      fits = λ short room fits. epoch_fits room kept fits;
    })

pub returns-in-PassesOver-clause-view : goal.returns-in-PassesOver-clause-view
returns-in-PassesOver-clause-view c = grind (arith, elements)

pub returns-in_ok-copy-in-GoesBack-clause-view : goal.returns-in_ok-copy-in-GoesBack-clause-view
returns-in_ok-copy-in-GoesBack-clause-view c = grind (arith, elements)

pub returns-in-Notes-clause-view : goal.returns-in-Notes-clause-view
returns-in-Notes-clause-view c = grind (arith, elements)
