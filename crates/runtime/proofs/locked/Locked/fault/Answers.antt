use Rattle.std.proofs.Common.{◌≡◌, ◌∙◌, true, List, sym, subst}
use Rattle.std.proofs.lemmas.Result.{IfOk-weaker}
use mathlib.Core.Logic.{∥∥₁_elim, ∥∥₁_prop}
use Rattle.journal.specs.Histories.{Begins, seen}
use Rattle.protocol.specs.World.Common.{WorldView}
use Rattle.run_log.specs.Answers.{IsFaultWritten}
use Rattle.run_log.specs.ArmedWorlds.{armed_view}
use Rattle.run_log.specs.Turns.{IsFault}
use Rattle.run_log.specs.declared.answer.FaultAnswer.{FaultAnswer}
use Rattle.run_log.specs.declared.history.Line.{Line}
use Rattle.runtime.specs.Causes.{is_caused, last_round}
use Rattle.runtime.specs.Ending.{is_over}
use Rattle.runtime.proofs.Beginnings.{faulted}
use Rattle.runtime.proofs.Calls.{either_so}
use Rattle.runtime.proofs.Causes.{bound_within, err_so, fault_keeps, fault_within}
use Rattle.runtime.proofs.Shown as shown
use Rattle.std.proofs.Common.{arith}
use Rattle.std.proofs.lemmas.Grind.{elements}
use Rattle.runtime.proofs.locked.Locked.fault.Goals as goal

pub invariant_of-self : goal.invariant_of-self
invariant_of-self g c =
    let run = g.ThisRun.HubRun in
    let rooms = g.ThisRun.Run.rooms in
    let opening = g.ThisRun.Run.opening in
    let script = g.ThisRun.Run.script in
    let mid = c.end_by_rounds.new.self in
    let old = armed_view mid.log.armed in
    let new = armed_view c.fault-answer.new.log.armed in
    let refused = err_so c.fault-answer.result (λ same. same.world) c.fault-answer.ensures.unchanged in
    let played = IfOk-weaker c.fault-answer.result _ (λ (answer : FaultAnswer). IsFault rooms script mid.log.passed answer old new)
    (λ answer told. told.played) c.fault-answer.ensures.answered in
    record {
      begins = λ begun keeps.
          faulted _ mid.log.lines.items c.fault-answer.new.log.lines.items _ (mid.log.same_keeps ∙ keeps) (mid.begins begun keeps)
          (λ same. same.lines) c.fault-answer.result
          (IfOk-weaker c.fault-answer.result _ (IsFaultWritten mid.log.keeps mid.log.lines.items c.fault-answer.new.log.lines.items)
          (λ answer told. told.written) c.fault-answer.ensures.answered)
          c.fault-answer.ensures.unchanged;
      caused = λ stopped.
          let was : mid.log.stopped ≡ true = sym (either_so c.fault-answer.result (λ answer told. told.running) (λ same. same.stopped) c.fault-answer.ensures.answered c.fault-answer.ensures.unchanged) ∙ stopped in
          fault_keeps (λ (w : WorldView). is_caused (is_over run.channels run.bounds) run.may_stop w mid.cause ≡ true) rooms script
          mid.log.passed c.fault-answer.result old new (c.fault-answer.ensures.stopped was) played refused (mid.caused was);
      same_rounds = mid.same_rounds;
      in_rounds = fault_within rooms script mid.log.passed run.bounds.rounds (last_round opening script run.bounds) mid.log.stopped
          c.fault-answer.result old new c.end_by_rounds.ensures.over (bound_within opening script run.bounds) mid.in_rounds c.fault-answer.ensures.stopped
          played refused;
      same_journal = c.show.ensures.same ∙ mid.same_journal;
      written = λ keeps. ∣ c.show.ensures.written keeps ∣₁;
    }

-- what is written in the journal goes on
pub show-requires : goal.show-requires
show-requires g c =
    let mid = c.end_by_rounds.new.self in
    let now = c.fault-answer.new.log.lines.items in
    record {
      here = mid.same_journal;
      reads_here = c.args.seat.now.here;
      grows = λ keeps. ∥∥₁_elim (mid.written keeps) ∥∥₁_prop (λ is. subst (λ (all : List Line). Begins all now) (sym is)
          (shown.faulted mid.log.lines.items now _ (mid.log.same_keeps ∙ keeps) (λ same. same.lines) c.fault-answer.result
          (IfOk-weaker c.fault-answer.result _ (IsFaultWritten mid.log.keeps mid.log.lines.items now)
          (λ answer told. told.written) c.fault-answer.ensures.answered)
          c.fault-answer.ensures.unchanged));
    }

pub returns-clause-shown : goal.returns-clause-shown
returns-clause-shown g c = λ keeps.
    let mid = c.end_by_rounds.new.self in
    let now = c.fault-answer.new.log.lines.items in
    let reader = c.args.seat.now.reader in
    let began = ∥∥₁_elim (mid.written keeps) ∥∥₁_prop
    (λ is. subst (λ (all : List Line). Begins (seen reader) all) is (c.show.ensures.began keeps)) in
    shown.shown_fault (seen reader) mid.log.lines.items now (seen c.show.new.reader) began (c.show.ensures.shown keeps) _
    (mid.log.same_keeps ∙ keeps) c.fault-answer.result
    (IfOk-weaker c.fault-answer.result _ (IsFaultWritten mid.log.keeps mid.log.lines.items now)
    (λ answer told. told.written) c.fault-answer.ensures.answered)

pub returns-clause-told : goal.returns-clause-told
returns-clause-told g c = grind (arith, elements)
