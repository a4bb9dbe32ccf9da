use Rattle.std.proofs.Common.{true, ◌≡◌, ◌∙◌, inl, refl, subst, sym, ℕ, ℤ, List, Option}
use Rattle.std.proofs.Math.Logic.{∥∥₁_map}
use Rattle.protocol.specs.Node.Common.{network_of, Net, Network}
use Rattle.protocol.specs.World.Common.{are_quiet}
use Rattle.cobaltmidge.specs.Common.{happenings, history_text, world_of}
use Rattle.std.specs.Prelude.{is_some}
use Rattle.cobaltmidge.proofs.Beginnings.{beginning_same, end_of}
use Rattle.cobaltmidge.specs.Beginning.{IsBeginning}
use Rattle.cobaltmidge.specs.Runs.{IsEndOf, IsRun, released_streams}
use Rattle.cobaltmidge.specs.declared.settings.Settings.{Settings}
use Rattle.kahn_program.specs.Runnable.{IsReportless}
use Rattle.kahn_program.specs.Runs.{IsToldOf, IsWrittenIf}
use Rattle.kahn_program.proofs.Faults.{fault_is}
use Rattle.kahn_program.proofs.Released.{report_is}
use Rattle.kahn_program.proofs.Causes.{run_keeps}
use Rattle.kahn_program.proofs.network_run.report_of_run.Goals as goal

pub returns-in-Err-clause-err : goal.returns-in-Err-clause-err
returns-in-Err-clause-err g c =
    subst (IsReportless g.K.Keeper.keeps) (sym c.run_failure.ensures)
    (inl (fault_is true c.in-Err.unfinished.fault c.in-Err.ensures.err))

pub returns-in-Ok-told-clause-ok : goal.returns-in-Ok-told-clause-ok
returns-in-Ok-told-clause-ok g c =
    let options = c.args.options.now in
    let net = c.args.net in
    let inputs = c.args.inputs in
    let script = c.args.script.items in
    let made : c.in-Ok.net.value ≡ net = c.in-Ok.ensures.ok in
    let first = world_of c.in_ok-world.world in
    let counts : Option (List ℕ) = g.K.Keeper.held c.args.keeper.now in
    let begins : IsBeginning counts (network_of net.program) inputs c.settings-settings.result.room first =
    subst (λ (n : Net). IsBeginning counts (network_of n.program) inputs c.settings-settings.result.room first) made
    c.in_ok-world.ensures.begins in
    let same = beginning_same counts (network_of net.program) inputs c.settings-settings.result.room first begins in
    let now = world_of c.in-Ok-run_from.ended.world in
    let happened = happenings c.in-Ok-run_from.ended.history.lines.items in
    let told = c.in-Ok-told.told in
    let seen : c.deref-2.result.now ≡ net = c.deref-2.ensures ∙ made in
    let wrote : List ℕ → Type 0 = λ text. told.1.items ≡ text in
    report_is (λ held. held ≡ counts) (g.K.Keeper.has_kept c.close_outputs.new.keeper) wrote options net inputs script happened counts now
    told.0.bytes.items told.0.complete refl
    (∥∥₁_map c.in-Ok-run_from.ensures.same (λ s. (s.0 ∙ same.0, s.1 ∙ same.1)))
    (subst (λ (s : Settings). IsEndOf counts s (network_of net.program) inputs script happened now) c.settings-settings.ensures
    (end_of counts c.settings-settings.result (network_of net.program) inputs script happened first now begins
    c.in-Ok-run_from.ensures.end))
    (subst (λ (i : List (List ℤ)). IsRun (network_of net.program) i (released_streams (network_of net.program) now.stations) (are_quiet now))
    same.1
    (subst (λ (n : Network). IsRun n first.inputs (released_streams n now.stations) (are_quiet now)) same.0
    c.in-Ok-run_from.ensures.run))
    (subst (λ (n : Net). IsToldOf n options.items now told.0.bytes.items told.0.complete) seen c.in-Ok-told.ensures.told)
    c.in_ok-close_outputs.ensures.kept
    (subst (λ (n : Net). IsWrittenIf (is_some options.history) wrote (history_text n happened)) seen c.in-Ok-told.ensures.written)

pub returns-in-Err-clause-cause : goal.returns-in-Err-clause-cause
returns-in-Err-clause-cause g c = run_keeps _ _ _ c.run_failure.ensures
