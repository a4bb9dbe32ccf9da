-- where the run didn't begin nothing is written, and the world is the one that was handed in
use Rattle.std.proofs.Common.{rules, ◌≡◌, ℕ, true, sym, ap, subst}
use Rattle.protocol.specs.World.Common.{WorldView}
use Rattle.replay.specs.Armed.{ArmedView, armed_at_first}
use Rattle.run_log.specs.ArmedWorlds.{armed_view}
use Rattle.run_log.specs.Lines.{happenings}
use Rattle.run_log.specs.RunLogs.{happened_in}
use Rattle.runtime.specs.Beginning.{BeginsByDriver, first_lines}
use Rattle.runtime.specs.Ending.{IsOver}
use Rattle.runtime.specs.Turning.{ArePassed, progress}
use Rattle.world.specs.WholeView.{world_of}
use Rattle.runtime.proofs.Beginnings.{begun_so}
use Rattle.runtime.proofs.Nowhere.{leads_nowhere, runs_nowhere}
use Rattle.runtime.proofs.Turns.{ends_so, unrefused}
use Rattle.std.proofs.Common.{arith}
use Rattle.std.proofs.lemmas.Grind.{elements}
use Rattle.runtime.proofs.turning.play_by_turns.Goals as goal

pub returns-in_default-clause-leads : goal.returns-in_default-clause-leads
returns-in_default-clause-leads g c = λ kept.
    leads_nowhere _ _ _ _ _ c.unbegun.ensures.none (rw c.unbegun.ensures.same c.requires.opening)

pub returns-in_default-clause-run : goal.returns-in_default-clause-run
returns-in_default-clause-run g c = runs_nowhere _ _ _ _ (rw c.unbegun.ensures.same c.requires.opening)

-- one that ended well began with the lines of round 0, and of the others nothing is said
pub returns-clause-begun : goal.returns-clause-begun
returns-clause-begun g c = λ keeps.
    begun_so g.ThisRun.Run.script (happenings c.close-world-2.result.1.lines.items) c.run_out-end.result (c.close-world-2.ensures.begun keeps)

-- the world that comes back is that of the log
pub returns-clause-over : goal.returns-clause-over
returns-clause-over g c =
    subst (λ (w : WorldView). IsOver c.args.channels.now c.args.bounds w c.run_out-end.result) (sym (ap world_of c.close-world-2.ensures.world))
    c.run_out-end.ensures.over

pub returns-clause-turns : goal.returns-clause-turns
returns-clause-turns g c =
    let rooms = g.ThisRun.Run.rooms in
    let script = g.ThisRun.Run.script in
    let lines = c.first_lines-lines.result in
    let begun = progress (armed_view c.begin-begun.new.log.armed) c.begin-begun.new.log.passed in
    let are : lines ≡ first_lines script = search rules in
    let came = unrefused (ArePassed rooms script lines (progress (armed_view c.new-log.result.armed) 0) begun) c.begin-begun.result
    c.in_default-begun.not-Err c.begin-begun.ensures.passed in
    ends_so _ c.args.nodes rooms script g.ThisRun.Run.opening (world_of c.close-world-2.result.0)
    (armed_view c.run_out-end.new.table.log.armed) begun c.run_out-end.result
    (subst (λ (n : ℕ). ArePassed rooms script n (progress (armed_at_first g.ThisRun.Run.opening) 0) begun) are
    (subst (λ (a : ArmedView). ArePassed rooms script lines (progress a 0) begun) c.new-log.ensures.first came))
    c.run_out-end.ensures.taken (ap world_of c.close-world-2.ensures.world)

pub new-log-requires-clause-opening : goal.new-log-requires-clause-opening
new-log-requires-clause-opening g c = grind (arith, elements)

pub begin-begun-requires-clause-none : goal.begin-begun-requires-clause-none
begin-begun-requires-clause-none g c = grind (arith, elements)

pub returns-in_default-clause-over : goal.returns-in_default-clause-over
returns-in_default-clause-over g c = grind (arith, elements)

pub returns-in_default-clause-turns : goal.returns-in_default-clause-turns
returns-in_default-clause-turns g c = grind (arith, elements)

pub returns-in_default-clause-begun : goal.returns-in_default-clause-begun
returns-in_default-clause-begun g c = grind (arith, elements)

-- one that began well has the lines of round 0 before all else
pub invariant_of-table : goal.invariant_of-table
invariant_of-table g c = record {
  one_part = grind (arith, elements);
  running = grind (arith, elements);
  begins = λ keeps.
      let are : c.first_lines-lines.result ≡ first_lines g.ThisRun.Run.script = grind (arith, elements) in
      let begun = happened_in c.begin-begun.new.log in
      subst (λ (n : ℕ). BeginsByDriver n begun) are
      (unrefused (g.ThisRun.Run.keeps ≡ true → BeginsByDriver c.first_lines-lines.result begun) c.begin-begun.result
      c.in_default-begun.not-Err c.begin-begun.ensures.begun keeps);
}
