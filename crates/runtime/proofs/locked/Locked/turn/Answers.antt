use Rattle.std.proofs.Common.{◌≡◌, ◌∙◌, true, List, sym, ap, subst}
use Rattle.std.proofs.lemmas.Result.{IfOk-weaker}
use mathlib.Core.Logic.{∥∥₁_elim, ∥∥₁_prop}
use Rattle.journal.specs.Histories.{Begins, seen}
use Rattle.protocol.specs.World.Common.{WorldView, released_of}
use Rattle.run_log.specs.Answers.{IsTurnWritten}
use Rattle.run_log.specs.ArmedWorlds.{armed_view}
use Rattle.run_log.specs.Turns.{IsTurn}
use Rattle.run_log.specs.declared.answer.TurnAnswer.{TurnAnswer}
use Rattle.run_log.specs.declared.history.Line.{Line}
use Rattle.runtime.specs.Causes.{is_caused, last_round}
use Rattle.runtime.specs.Ending.{is_over}
use Rattle.runtime.proofs.Beginnings.{turned}
use Rattle.runtime.proofs.Calls.{either_so, refused_so}
use Rattle.runtime.proofs.Causes.{bound_within, err_so, turn_keeps, turn_within}
use Rattle.runtime.proofs.Marked.{turn_leaves}
use Rattle.runtime.proofs.Shown as shown
use Rattle.runtime.proofs.locked.Locked.turn.Goals as goal

pub invariant_of-self : goal.invariant_of-self
invariant_of-self g c =
    let run = g.ThisRun.HubRun in
    let rooms = g.ThisRun.Run.rooms in
    let opening = g.ThisRun.Run.opening in
    let script = g.ThisRun.Run.script in
    let mid = c.end_by_rounds.new.self in
    let old = armed_view mid.log.armed in
    let new = armed_view c.turn-answer.new.self.armed in
    let held = refused_so c.turn-answer.result (λ fault refused. refused.same) c.turn-answer.ensures.refused in
    let refused = err_so c.turn-answer.result (λ same. same.world) held in
    let done = IfOk-weaker c.turn-answer.result _ (λ (answer : TurnAnswer). IsTurn rooms script mid.log.passed c.args.node answer old new)
    (λ answer told. told.turned) c.turn-answer.ensures.answered in
    record {
      begins = λ begun keeps.
          turned _ mid.log.lines.items c.turn-answer.new.self.lines.items _ (mid.log.same_keeps ∙ keeps) (mid.begins begun keeps)
          (λ same. same.lines) c.args.node c.turn-answer.result
          (IfOk-weaker c.turn-answer.result _ (IsTurnWritten mid.log.keeps c.args.node mid.log.lines.items c.turn-answer.new.self.lines.items)
          (λ answer told. told.written) c.turn-answer.ensures.answered)
          held;
      caused = λ stopped.
          let was : mid.log.stopped ≡ true = sym (either_so c.turn-answer.result (λ answer told. told.running) (λ same. same.stopped) c.turn-answer.ensures.answered held) ∙ stopped in
          turn_keeps (λ (w : WorldView). is_caused (is_over run.channels run.bounds) run.may_stop w mid.cause ≡ true) rooms script
          mid.log.passed c.args.node c.turn-answer.result old new (c.turn-answer.ensures.stopped was) done refused (mid.caused was);
      same_rounds = mid.same_rounds;
      in_rounds = turn_within rooms script mid.log.passed c.args.node run.bounds.rounds (last_round opening script run.bounds) mid.log.stopped c.turn-answer.result old new
          c.end_by_rounds.ensures.over (bound_within opening script run.bounds) mid.in_rounds c.turn-answer.ensures.stopped done
          refused;
      same_journal = c.show.ensures.same ∙ mid.same_journal;
      written = λ keeps. ∣ c.show.ensures.written keeps ∣₁;
    }

-- what is written in the journal goes on
pub show-requires : goal.show-requires
show-requires g c =
    let mid = c.end_by_rounds.new.self in
    let now = c.turn-answer.new.self.lines.items in
    record {
      here = mid.same_journal;
      reads_here = c.requires.here;
      grows = λ keeps. ∥∥₁_elim (mid.written keeps) ∥∥₁_prop (λ is. subst (λ (all : List Line). Begins all now) (sym is)
          (shown.turned mid.log.lines.items now _ (mid.log.same_keeps ∙ keeps) (λ same. same.lines) c.args.node c.turn-answer.result
          (IfOk-weaker c.turn-answer.result _ (IsTurnWritten mid.log.keeps c.args.node mid.log.lines.items now)
          (λ answer told. told.written) c.turn-answer.ensures.answered)
          (refused_so c.turn-answer.result (λ fault refused. refused.same) c.turn-answer.ensures.refused)));
    }

pub returns-clause-shown : goal.returns-clause-shown
returns-clause-shown g c = λ keeps.
    let mid = c.end_by_rounds.new.self in
    let now = c.turn-answer.new.self.lines.items in
    let began = ∥∥₁_elim (mid.written keeps) ∥∥₁_prop
    (λ is. subst (λ (all : List Line). Begins (seen c.args.reader.now) all) is (c.show.ensures.began keeps)) in
    shown.shown_turn (seen c.args.reader.now) mid.log.lines.items now (seen c.show.new.reader) began (c.show.ensures.shown keeps) _
    (mid.log.same_keeps ∙ keeps) c.args.node c.turn-answer.result
    (IfOk-weaker c.turn-answer.result _ (IsTurnWritten mid.log.keeps c.args.node mid.log.lines.items now)
    (λ answer told. told.written) c.turn-answer.ensures.answered)

-- where the answer doesn't say that an item may have left, none has
pub returns-clause-left : goal.returns-clause-left
returns-clause-left g c none channel =
    let run = g.ThisRun.Run in
    let mid = c.end_by_rounds.new.self in
    let old = armed_view mid.log.armed in
    let new = armed_view c.turn-answer.new.self.armed in
    turn_leaves run.rooms run.script mid.log.passed c.args.node c.turn-answer.result old new
    (IfOk-weaker c.turn-answer.result _ (λ (answer : TurnAnswer). IsTurn run.rooms run.script mid.log.passed c.args.node answer old new)
    (λ answer told. told.turned) c.turn-answer.ensures.answered)
    (err_so c.turn-answer.result (λ same. same.world) (refused_so c.turn-answer.result (λ fault refused. refused.same) c.turn-answer.ensures.refused))
    none channel
    ∙ ap (λ armed. released_of channel (armed_view armed).world.stations) c.end_by_rounds.ensures.same
