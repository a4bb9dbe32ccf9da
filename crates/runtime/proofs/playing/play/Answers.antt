-- where the run didn't begin nothing is written, and the world is the one that was handed in
use Rattle.std.proofs.Common.{rules, ◌≡◌, ◌∙◌, ℕ, true, sym, ap, subst}
use Rattle.replay.specs.Armed.{ArmedView}
use Rattle.run_log.specs.ArmedWorlds.{armed_view}
use Rattle.run_log.specs.RunLogs.{happened_in}
use Rattle.runtime.specs.Beginning.{BeginsByDriver, first_lines}
use Rattle.runtime.specs.Turning.{ArePassed, progress}
use Rattle.runtime.specs.declared.bounds.Bounds.{Bounds}
use Rattle.runtime.proofs.Causes.{begun_within}
use Rattle.runtime.proofs.Turns.{unrefused}
use Rattle.run_log.specs.Lines.{happenings}
use Rattle.runtime.proofs.Beginnings.{begun_so}
use Rattle.runtime.proofs.Nowhere.{leads_nowhere, runs_nowhere}
use Rattle.std.proofs.Common.{arith}
use Rattle.std.proofs.lemmas.Grind.{elements}
use Rattle.runtime.proofs.playing.play.Goals as goal

pub returns-in_default-clause-leads : goal.returns-in_default-clause-leads
returns-in_default-clause-leads g c = λ kept.
    leads_nowhere _ _ _ _ _ c.unbegun.ensures.none (rw c.unbegun.ensures.same c.requires.opening)

pub returns-in_default-clause-run : goal.returns-in_default-clause-run
returns-in_default-clause-run g c = runs_nowhere _ _ _ _ (rw c.unbegun.ensures.same c.requires.opening)

pub returns-in_default-named-clause-leads : goal.returns-in_default-named-clause-leads
returns-in_default-named-clause-leads g c = λ kept.
    leads_nowhere _ _ _ _ _ c.unbegun-in_default-named.ensures.none (rw c.unbegun-in_default-named.ensures.same c.requires.opening)

pub returns-in_default-named-clause-run : goal.returns-in_default-named-clause-run
returns-in_default-named-clause-run g c = runs_nowhere _ _ _ _ (rw c.unbegun-in_default-named.ensures.same c.requires.opening)

pub returns-in_default-pop-clause-leads : goal.returns-in_default-pop-clause-leads
returns-in_default-pop-clause-leads g c = λ kept.
    leads_nowhere _ _ _ _ _ c.unbegun-in_default-pop.ensures.none (rw c.unbegun-in_default-pop.ensures.same c.requires.opening)

pub returns-in_default-pop-clause-run : goal.returns-in_default-pop-clause-run
returns-in_default-pop-clause-run g c = runs_nowhere _ _ _ _ (rw c.unbegun-in_default-pop.ensures.same c.requires.opening)

-- one that ended well began with the lines of round 0, and of the others nothing is said
pub returns-clause-begun : goal.returns-clause-begun
returns-clause-begun g c = λ keeps.
    begun_so g.ThisRun.Run.script (happenings c.close.result.history.lines.items) c.close.result.end (c.close.ensures.begun keeps)

-- the lines of round 0 are passed, where none was refused
pub over-hub-requires : goal.over-hub-requires
over-hub-requires g c =
    let rooms = g.ThisRun.Run.rooms in
    let script = g.ThisRun.Run.script in
    let lines = c.first_lines-lines.result in
    let log = c.begin-begun.new.log in
    let first = progress (armed_view c.open_log-log.result.0.armed) 0 in
    let begun = progress (armed_view log.armed) log.passed in
    let are : lines ≡ first_lines script = grind (arith, elements) in
    let passed = unrefused (ArePassed rooms script lines first begun) c.begin-begun.result c.in_default-begun.not-Err
    c.begin-begun.ensures.passed in
    record {
      journal = grind (arith, elements);
      unwritten = grind (arith, elements);
      begun = λ told keeps.
          subst (λ (n : ℕ). BeginsByDriver n (happened_in log)) are
          (unrefused (g.ThisRun.Run.keeps ≡ true → BeginsByDriver lines (happened_in log)) c.begin-begun.result c.in_default-begun.not-Err
          c.begin-begun.ensures.begun keeps);
      running = c.begin-begun.ensures.running;
      rounds = ap (λ (bounds : Bounds). bounds.rounds) c.requires.bounds;
      in_rounds = begun_within rooms script g.ThisRun.HubRun.bounds lines g.ThisRun.Run.opening first begun are
          (ap (λ (a : ArmedView). a.world) c.open_log-log.ensures.first) passed;
    }

-- who watches it may stop it where the run's name says so
pub returns-clause-stopped : goal.returns-clause-stopped
returns-clause-stopped g c = λ stopped. sym c.requires.watch ∙ c.close.ensures.stopped stopped

pub returns-in_default-pop-clause-rounds : goal.returns-in_default-pop-clause-rounds
returns-in_default-pop-clause-rounds g c = grind (arith, elements)

pub open_log-log-requires-clause-deliveries : goal.open_log-log-requires-clause-deliveries
open_log-log-requires-clause-deliveries g c = grind (arith, elements)

pub returns-in_default-clause-over : goal.returns-in_default-clause-over
returns-in_default-clause-over g c = grind (arith, elements)

pub returns-in_default-named-clause-begun : goal.returns-in_default-named-clause-begun
returns-in_default-named-clause-begun g c = grind (arith, elements)

pub open_log-log-requires-clause-room : goal.open_log-log-requires-clause-room
open_log-log-requires-clause-room g c = grind (arith, elements)

pub returns-in-Err-clause-stopped : goal.returns-in-Err-clause-stopped
returns-in-Err-clause-stopped g c = grind (arith, elements)

pub returns-clause-rounds : goal.returns-clause-rounds
returns-clause-rounds g c = grind (arith, elements)

pub returns-in_default-pop-clause-begun : goal.returns-in_default-pop-clause-begun
returns-in_default-pop-clause-begun g c = grind (arith, elements)

pub returns-in_default-pop-clause-over : goal.returns-in_default-pop-clause-over
returns-in_default-pop-clause-over g c = grind (arith, elements)

pub returns-in_default-named-clause-over : goal.returns-in_default-named-clause-over
returns-in_default-named-clause-over g c = grind (arith, elements)

pub returns-in_default-clause-begun : goal.returns-in_default-clause-begun
returns-in_default-clause-begun g c = grind (arith, elements)

pub returns-in-Err-clause-rounds : goal.returns-in-Err-clause-rounds
returns-in-Err-clause-rounds g c = grind (arith, elements)

pub begin-begun-requires-clause-lines : goal.begin-begun-requires-clause-lines
begin-begun-requires-clause-lines g c = grind (arith, elements)

pub returns-in_default-named-clause-rounds : goal.returns-in_default-named-clause-rounds
returns-in_default-named-clause-rounds g c = grind (arith, elements)

pub returns-in-Err-clause-over : goal.returns-in-Err-clause-over
returns-in-Err-clause-over g c = grind (arith, elements)

pub returns-in_default-clause-rounds : goal.returns-in_default-clause-rounds
returns-in_default-clause-rounds g c = grind (arith, elements)

pub begin-begun-requires-clause-part : goal.begin-begun-requires-clause-part
begin-begun-requires-clause-part g c = grind (arith, elements)

pub returns-in-Err-clause-begun : goal.returns-in-Err-clause-begun
returns-in-Err-clause-begun g c = grind (arith, elements)
