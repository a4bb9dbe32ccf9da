use Rattle.std.proofs.Common.{rules, ◌≡◌, ◌∙◌, ap, subst, ℕ, length, Some}
use Rattle.std.proofs.Math.Logic.{∥∥₁_map}
use Rattle.protocol.specs.Node.Common.{Network, network_of}
use Rattle.world.specs.WholeView.{world_of}
use Rattle.cobaltmidge.specs.KeptOutlets.{AreInFiles, held_counts}
use Rattle.cobaltmidge.specs.Reasons.{IsReasonOf}
use Rattle.cobaltmidge.specs.Released.{AreReleased, lists_of}
use Rattle.cobaltmidge.specs.Remaining.{IsUnresumed}
use Rattle.cobaltmidge.specs.Runs.{released_streams}
use Rattle.cobaltmidge.specs.Names.{script_of}
use Rattle.cobaltmidge.specs.declared.settings.Settings.{Settings}
use Rattle.cobaltmidge.specs.declared.unfinished.Unresumed.TheVariants.{Unfinished}
use Rattle.cobaltmidge.proofs.Beginnings.{beginning_same}
use Rattle.cobaltmidge.proofs.LeftKept.{far_so_far}
use Rattle.std.proofs.lemmas.Grind.{elements}
use Rattle.std.proofs.Common.{arith}
use Rattle.cobaltmidge.proofs.state.run_over.Goals as goal

pub invariant_of-result : goal.invariant_of-result
invariant_of-result g c = grind (arith, elements)

-- what had left of a run that was refused is put to its files
pub returns-in-Err-Unfinished-clause-left : goal.returns-in-Err-Unfinished-clause-left
returns-in-Err-Unfinished-clause-left g c =
    let run = c.args.run in
    let net = network_of run.network.now.net.value.program in
    let held = c.deref-2.result.now in
    let stopped : IsUnresumed run.settings net run.inputs (script_of run.script) held c.in-Ok.outputs.items
    (Unfinished c.in-Err-Unfinished.unfinished) = rw c.in-Err-Unfinished.field-0-is at c.in-Err-Unfinished.ensures.err in
    let is = stopped.1 in
    let same = beginning_same (Some held) net run.inputs run.settings.room is.0 is.1 in
    rw c.run_refused.ensures
    (far_so_far run.settings net run.inputs (script_of run.script) is.0 (AreInFiles c.put_left.new.outlets.items)
    c.in-Err-Unfinished.unfinished.left same is.2 c.in_ok-put_left-in-Err-Unfinished.ensures.kept)

pub returns-clause-run : goal.returns-clause-run
returns-clause-run g c =
    let run = c.args.run in
    let finished = c.in-Ok-resume.finished in
    let now = world_of finished.world in
    let outlets = c.close_world.new.outlets.items in
    let lists = c.in_ok-lists.lists.items in
    let channels : c.len.result ≡ length run.network.now.net.value.program.channels.items = search rules in
    ∥∥₁_map c.in-Ok-resume.ensures.same (λ same. record {
      now = now;
      counts = c.deref-2.result.now;
      were_held = c.deref-2.ensures.value ∙ (c.in_ok-held.ensures ∙ ap held_counts c.as_slice.ensures.value);
      is_run = c.in-Ok-resume.ensures.run;
      is_end = c.in-Ok-resume.ensures.end;
      over = c.in-Ok-resume.ensures.over;
      reason = subst (λ (settings : Settings). IsReasonOf now finished.end settings c.reason_of-reason.result)
          c.in-Ok-resume.ensures.settings c.reason_of-reason.ensures;
      complete = c.complete-complete.ensures.quiet;
      released = subst (λ (n : ℕ). AreReleased n now (lists_of lists)) channels c.in_ok-lists.ensures.released;
      has_kept = subst (λ (n : Network). AreInFiles outlets (released_streams n now.stations)) same.0
          c.in_ok-close_world.ensures.kept;
    })
