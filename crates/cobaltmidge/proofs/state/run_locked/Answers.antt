use Rattle.std.proofs.Common.{◌≡◌, true, string_bytes, subst, sym, ℕ, ℤ, List}
use Rattle.host.specs.Requests.{Later}
use Rattle.std.proofs.Math.Logic.{∥∥₁_map}
use Rattle.std.proofs.lemmas.Result.{IfErr-weaker, IfOk-weaker, err_from_is_err_and}
use Rattle.protocol.specs.Node.Common.{network_of}
use Rattle.run_files.specs.Opening.{opened_names}
use Rattle.run_files.specs.Wanted.{wanted_of}
use Rattle.run_files.specs.declared.fault.FilesFault.TheVariants.{Astray}
use Rattle.run_files.proofs.Caused.{caused_as}
use Rattle.run_files.proofs.Going.{opened_goes}
use Rattle.cobaltmidge.specs.KeptOutlets.{AreInFiles, held_counts, IsRunStop}
use Rattle.cobaltmidge.specs.KeptRuns.{IsKeptRun, IsKeptWhereRefused}
use Rattle.cobaltmidge.specs.KeptStreams.{AllHeld, AreKeptIn, IsStateCause}
use Rattle.cobaltmidge.specs.Names.{script_of}
use Rattle.cobaltmidge.specs.declared.kept_run.KeptRun.{KeptRun}
use Rattle.cobaltmidge.specs.declared.state_error.StateError.{StateError}
use Rattle.cobaltmidge.proofs.InFolder.{all_held_later, held_in, kept_in, kept_run_maps, stop_in_log}
use Rattle.cobaltmidge.proofs.LeftKept.{refused_maps}
use Rattle.cobaltmidge.proofs.state.run_locked.Goals as goal

pub returns-in_err-give_back-clause-cause : goal.returns-in_err-give_back-clause-cause
returns-in_err-give_back-clause-cause g c =
    let p = err_from_is_err_and c.from_residual.result c.from_residual.ensures.1 in
    rw (p.1, p.2) (caused_as _ _ _ _ Astray c.in_err-give_back.ensures.cause tt)

pub returns-clause-run : goal.returns-clause-run
returns-clause-run g c =
    let run = c.args.run in
    let net = network_of run.network.now.net.value.program in
    let script = script_of run.script in
    let sync = c.args.names.now.sync in
    let folder = string_bytes c.args.folder.now in
    let outlets = c.run_over-kept.new.outlets.items in
    let now = g.H.Host.asked c.give_back.new.host in
    let filed : List (List ℤ) → Type 0 = λ streams. AreInFiles outlets streams in
    let kept : List (List ℤ) → Type 0 = λ streams. AreKeptIn sync folder (opened_names c.args.opened.now) now streams in
    let counted : List ℕ → Type 0 = λ counts. counts ≡ held_counts c.args.files.items in
    let held : List ℕ → Type 0 = λ counts. AllHeld sync folder (opened_names c.args.opened.now) now counts in
    let later : Later (g.H.Host.asked c.args.host.now) now = c.give_back.ensures.goes.later in
    IfOk-weaker c.run_over-kept.result
    (λ (it : KeptRun). ∥ IsKeptRun run.settings net run.inputs script counted filed it ∥₁)
    (λ (it : KeptRun). ∥ IsKeptRun run.settings net run.inputs script held kept it ∥₁)
    (λ it is. ∥∥₁_map is (kept_run_maps run.settings net run.inputs script counted held filed kept it
    (λ counts are. all_held_later sync folder (opened_names c.args.opened.now) _ now later counts (subst
    (λ ns. AllHeld sync folder (opened_names c.args.opened.now) (g.H.Host.asked c.args.host.now) ns) (sym are)
    (held_in sync folder c.args.opened.now c.args.files.items _ c.requires.opened c.requires.files)))
    (λ streams are. kept_in sync folder c.args.opened.now outlets now (opened_goes _ _ _ _ _ _ _ c.give_back.ensures.goes c.requires.opened)
    c.in_ok-give_back.ensures.used streams are)))
    c.run_over-kept.ensures.run

pub returns-clause-cause : goal.returns-clause-cause
returns-clause-cause g c =
    let o = wanted_of c.args.names.now in
    let outlets = c.run_over-kept.new.outlets.items in
    let now = g.H.Host.asked c.give_back.new.host in
    IfErr-weaker c.run_over-kept.result
    (λ (error : StateError). IsRunStop true outlets error.fault)
    (λ (error : StateError). IsStateCause true o now error.fault)
    (λ error stop. stop_in_log true o (string_bytes c.args.folder.now) now c.args.opened.now outlets error.fault
    (opened_goes _ _ _ _ _ _ _ c.give_back.ensures.goes c.requires.opened) c.in_ok-give_back.ensures.used stop)
    c.run_over-kept.ensures.cause

pub returns-in_err-give_back-clause-left : goal.returns-in_err-give_back-clause-left
returns-in_err-give_back-clause-left g c =
    let p = err_from_is_err_and c.from_residual.result c.from_residual.ensures.1 in
    rw (p.1, p.2) tt

pub returns-clause-left : goal.returns-clause-left
returns-clause-left g c =
    let run = c.args.run in
    let net = network_of run.network.now.net.value.program in
    let sync = c.args.names.now.sync in
    let folder = string_bytes c.args.folder.now in
    let outlets = c.run_over-kept.new.outlets.items in
    let now = g.H.Host.asked c.give_back.new.host in
    let filed : List (List ℤ) → Type 0 = λ streams. AreInFiles outlets streams in
    let kept : List (List ℤ) → Type 0 = λ streams. AreKeptIn sync folder (opened_names c.args.opened.now) now streams in
    IfErr-weaker c.run_over-kept.result
    (λ (error : StateError). IsKeptWhereRefused net run.inputs filed error.fault)
    (λ (error : StateError). IsKeptWhereRefused net run.inputs kept error.fault)
    (λ error. refused_maps net run.inputs filed kept
    (λ streams are. kept_in sync folder c.args.opened.now outlets now (opened_goes _ _ _ _ _ _ _ c.give_back.ensures.goes c.requires.opened)
    c.in_ok-give_back.ensures.used streams are) error.fault)
    c.run_over-kept.ensures.left
