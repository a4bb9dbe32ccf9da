use Rattle.std.proofs.Common.{◌≡◌, ◌∙◌, true, List, sym, subst}
use Rattle.journal.specs.Histories.{Begins, seen}
use Rattle.run_log.specs.ArmedWorlds.{armed_view}
use Rattle.runtime.specs.Causes.{last_round}
use Rattle.station.specs.DoneView.{done_view}
use Rattle.station.specs.ReplyView.{Reply, reply_view}
use Rattle.std.proofs.lemmas.Result.{IfOk-weaker}
use mathlib.Core.Logic.{∥∥₁_elim, ∥∥₁_prop}
use Rattle.protocol.specs.World.Common.{Install}
use Rattle.replay.specs.Armed.{IsArmedStep, OfWorld}
use Rattle.replay.specs.declared.kept.Maker.TheVariants.{Node}
use Rattle.run_log.specs.Added.{IsAdded}
use Rattle.run_log.specs.declared.history.Line.{Line}
use Rattle.runtime.proofs.Beginnings.{installed}
use Rattle.runtime.proofs.Calls.{either_so, refused_so}
use Rattle.runtime.proofs.Causes.{err_so, install_keeps, install_within}
use Rattle.runtime.proofs.Shown as shown
use Rattle.runtime.proofs.locked.Locked.install.Goals as goal

pub invariant_of-self : goal.invariant_of-self
invariant_of-self g c =
    let run = g.ThisRun.HubRun in
    let rooms = g.ThisRun.Run.rooms in
    let locked = c.args.self.now in
    let old = armed_view locked.log.armed in
    let new = armed_view c.install-reply.new.self.armed in
    let done = done_view c.args.done in
    let held = refused_so c.install-reply.result (λ held refused. refused.same) c.install-reply.ensures.refused in
    let refused = err_so c.install-reply.result (λ same. same.world) held in
    let installs = IfOk-weaker c.install-reply.result _ (λ (reply : Reply). IsArmedStep rooms (OfWorld (Install done)) old (reply_view reply) new)
    (λ reply made. made.step) c.install-reply.ensures.made in
    record {
      begins = λ begun keeps.
          installed _ locked.log.lines.items c.install-reply.new.self.lines.items _ (locked.log.same_keeps ∙ keeps) (locked.begins begun keeps)
          (λ same. same.lines) _ _ c.install-reply.result
          (IfOk-weaker c.install-reply.result _
          (λ (reply : Reply). IsAdded locked.log.keeps (Node c.args.node) (OfWorld (Install done)) (reply_view reply) locked.log.lines.items
          c.install-reply.new.self.lines.items) (λ reply made. made.added) c.install-reply.ensures.made)
          held;
      caused = λ stopped.
          let was : locked.log.stopped ≡ true = sym (either_so c.install-reply.result (λ answer told. told.running) (λ same. same.stopped) c.install-reply.ensures.made held) ∙ stopped in
          install_keeps rooms run.channels run.bounds run.may_stop done c.install-reply.result old new locked.cause installs
          refused (locked.caused was);
      same_rounds = locked.same_rounds;
      in_rounds = install_within rooms (last_round g.ThisRun.Run.opening g.ThisRun.Run.script run.bounds) done c.install-reply.result old new
          installs refused locked.in_rounds;
      same_journal = c.show.ensures.same ∙ locked.same_journal;
      written = λ keeps. ∣ c.show.ensures.written keeps ∣₁;
    }

-- what is written in the journal goes on
pub show-requires : goal.show-requires
show-requires g c =
    let locked = c.args.self.now in
    let now = c.install-reply.new.self.lines.items in
    let event = OfWorld (Install (done_view c.args.done)) in
    record {
      here = locked.same_journal;
      reads_here = c.requires.here;
      grows = λ keeps. ∥∥₁_elim (locked.written keeps) ∥∥₁_prop (λ is. subst (λ (all : List Line). Begins all now) (sym is)
          (shown.installed locked.log.lines.items now _ (locked.log.same_keeps ∙ keeps) (λ same. same.lines) (Node c.args.node) event
          c.install-reply.result
          (IfOk-weaker c.install-reply.result _
          (λ (reply : Reply). IsAdded locked.log.keeps (Node c.args.node) event (reply_view reply) locked.log.lines.items now)
          (λ reply made. made.added) c.install-reply.ensures.made)
          (refused_so c.install-reply.result (λ held refused. refused.same) c.install-reply.ensures.refused)));
    }

pub returns-clause-shown : goal.returns-clause-shown
returns-clause-shown g c = λ keeps.
    let locked = c.args.self.now in
    let now = c.install-reply.new.self.lines.items in
    let event = OfWorld (Install (done_view c.args.done)) in
    let began = ∥∥₁_elim (locked.written keeps) ∥∥₁_prop
    (λ is. subst (λ (all : List Line). Begins (seen c.args.reader.now) all) is (c.show.ensures.began keeps)) in
    shown.shown_event (seen c.args.reader.now) locked.log.lines.items now (seen c.show.new.reader) began (c.show.ensures.shown keeps) _
    (locked.log.same_keeps ∙ keeps) (Node c.args.node) event c.install-reply.result
    (IfOk-weaker c.install-reply.result _
    (λ (reply : Reply). IsAdded locked.log.keeps (Node c.args.node) event (reply_view reply) locked.log.lines.items now)
    (λ reply made. made.added) c.install-reply.ensures.made)
