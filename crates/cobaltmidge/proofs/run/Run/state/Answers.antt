use Rattle.std.proofs.Common.{true, ◌∙◌, ◌++◌, ◌∷◌, [], ap, subst, string_bytes, ℕ, ℤ, List, None, Some, refl, sym}
use Rattle.std.proofs.Math.Logic.{∥∥₁_map}
use Rattle.std.proofs.lemmas.Result.{IfErr-weaker, IfOk-weaker}
use Rattle.protocol.specs.Node.Common.{Net, network_of}
use Rattle.run_files.specs.Opening.{opened_names, paths_in}
use Rattle.run_files.specs.Syncing.{AreSyncedIf}
use Rattle.run_files.specs.Wanted.{wanted_of}
use Rattle.run_files.specs.declared.held_file.OpenedName.{OpenedName}
use Rattle.run_files.proofs.Going.{synced_later}
use Rattle.run_files.proofs.Left.{left_by_goes}
use Rattle.cobaltmidge.specs.FileNames.{file_names}
use Rattle.cobaltmidge.specs.KeptRuns.{IsKeptRun, IsKeptWhereRefused}
use Rattle.cobaltmidge.specs.KeptStreams.{AllHeld, AreKept, AreKeptIn, IsStateCause}
use Rattle.cobaltmidge.specs.Names.{script_of}
use Rattle.cobaltmidge.specs.Texts.{AreInputsOf, IsNetOf}
use Rattle.cobaltmidge.specs.declared.kept_run.KeptRun.{KeptRun}
use Rattle.cobaltmidge.specs.declared.state_error.StateError.{StateError}
use Rattle.cobaltmidge.proofs.InFolder.{cause_later, held_as, kept_as, kept_run_maps}
use Rattle.cobaltmidge.proofs.LeftKept.{refused_maps}
use Rattle.std.proofs.lemmas.Grind.{elements}
use Rattle.std.proofs.Common.{arith}
use Rattle.cobaltmidge.proofs.run.Run.state.Goals as goal

pub let_go-requires-clause-held : goal.let_go-requires-clause-held
let_go-requires-clause-held g c κs within = c.run_locked-kept.ensures.goes.held _ c.in_ok-open.ensures.held

pub returns-clause-later : goal.returns-clause-later
returns-clause-later g c r h = c.let_go.ensures.later r (c.run_locked-kept.ensures.goes.later r (c.open_folder.ensures.later r h))

pub returns-clause-cleared : goal.returns-clause-cleared
returns-clause-cleared g c path left =
    c.open_folder.ensures.cleared path (left_by_goes _ _ _ _ c.run_locked-kept.ensures.goes path (c.let_go.ensures.cleared path left))

pub returns-in_err-open-clause-cleared : goal.returns-in_err-open-clause-cleared
returns-in_err-open-clause-cleared g c path left = c.open_folder.ensures.cleared path left

pub returns-clause-run : goal.returns-clause-run
returns-clause-run g c =
    let run = c.args.self in
    let known = run.network.now.net.value in
    let net = network_of known.program in
    let script = script_of run.script in
    let sync = c.args.names.now.sync in
    let folder = string_bytes c.args.folder.now in
    let before = g.H.Host.asked c.run_locked-kept.new.host in
    let now = g.H.Host.asked c.let_go.new.host in
    let names = opened_names c.as_slice.result.now in
    let outputs = file_names known.program.channels.items known.channel_names.items in
    let listed = c.in_ok-outputs.ensures
    ∙ ap (λ (it : Net). file_names it.program.channels.items it.channel_names.items) c.deref.ensures in
    let filed : List (List ℤ) → Type 0 = λ streams. AreKeptIn sync folder names before streams in
    let kept : List (List ℤ) → Type 0 = λ streams. AreKept sync (Some folder) outputs now streams in
    let held : List ℕ → Type 0 = λ counts. AllHeld sync folder names before counts in
    let holds : List ℕ → Type 0 = λ counts. AllHeld sync folder outputs now counts in
    IfOk-weaker c.run_locked-kept.result
    (λ (it : KeptRun). ∥ IsKeptRun run.settings net run.inputs script held filed it ∥₁)
    (λ (it : KeptRun). ∥ IsKeptRun run.settings net run.inputs script holds kept it ∥₁)
    (λ it is. ∥∥₁_map is (kept_run_maps run.settings net run.inputs script held holds filed kept it
    (held_as sync folder names outputs before now
    (ap (λ (opened : List OpenedName). opened_names opened) c.as_slice.ensures.value ∙ (c.in_ok-open.ensures.named ∙ listed))
    c.let_go.ensures.later)
    (kept_as sync folder names outputs before now
    (ap (λ (opened : List OpenedName). opened_names opened) c.as_slice.ensures.value ∙ (c.in_ok-open.ensures.named ∙ listed))
    c.let_go.ensures.later
    (subst (λ (all : List (List ℕ)). AreSyncedIf sync (paths_in folder all ++ folder ∷ []) now) listed
    (synced_later _ _ _ _ (λ r h. c.let_go.ensures.later r (c.run_locked-kept.ensures.goes.later r h)) c.in_ok-open.ensures.synced)))))
    c.run_locked-kept.ensures.run

pub returns-clause-cause : goal.returns-clause-cause
returns-clause-cause g c =
    let o = wanted_of c.args.names.now in
    let before = g.H.Host.asked c.run_locked-kept.new.host in
    let now = g.H.Host.asked c.let_go.new.host in
    IfErr-weaker c.run_locked-kept.result
    (λ (error : StateError). IsStateCause true o before error.fault)
    (λ (error : StateError). IsStateCause true o now error.fault)
    (λ error why. cause_later true o before now error.fault c.let_go.ensures.later why)
    c.run_locked-kept.ensures.cause

pub returns-clause-left : goal.returns-clause-left
returns-clause-left g c =
    let run = c.args.self in
    let known = run.network.now.net.value in
    let net = network_of known.program in
    let sync = c.args.names.now.sync in
    let folder = string_bytes c.args.folder.now in
    let before = g.H.Host.asked c.run_locked-kept.new.host in
    let now = g.H.Host.asked c.let_go.new.host in
    let names = opened_names c.as_slice.result.now in
    let outputs = file_names known.program.channels.items known.channel_names.items in
    let listed = c.in_ok-outputs.ensures
    ∙ ap (λ (it : Net). file_names it.program.channels.items it.channel_names.items) c.deref.ensures in
    let filed : List (List ℤ) → Type 0 = λ streams. AreKeptIn sync folder names before streams in
    let kept : List (List ℤ) → Type 0 = λ streams. AreKept sync (Some folder) outputs now streams in
    IfErr-weaker c.run_locked-kept.result
    (λ (error : StateError). IsKeptWhereRefused net run.inputs filed error.fault)
    (λ (error : StateError). IsKeptWhereRefused net run.inputs kept error.fault)
    (λ error. refused_maps net run.inputs filed kept
    (kept_as sync folder names outputs before now
    (ap (λ (opened : List OpenedName). opened_names opened) c.as_slice.ensures.value ∙ (c.in_ok-open.ensures.named ∙ listed))
    c.let_go.ensures.later
    (subst (λ (all : List (List ℕ)). AreSyncedIf sync (paths_in folder all ++ folder ∷ []) now) listed
    (synced_later _ _ _ _ (λ r h. c.let_go.ensures.later r (c.run_locked-kept.ensures.goes.later r h)) c.in_ok-open.ensures.synced)))
    error.fault)
    c.run_locked-kept.ensures.left

pub returns-clause-rules : goal.returns-clause-rules
returns-clause-rules g c = grind (arith, elements)

pub run_locked-kept-requires-clause-opened : goal.run_locked-kept-requires-clause-opened
run_locked-kept-requires-clause-opened g c = grind (arith, elements)

pub run_locked-kept-requires-clause-files : goal.run_locked-kept-requires-clause-files
run_locked-kept-requires-clause-files g c κs within = grind (arith, elements)

pub open_folder-requires-clause-judged : goal.open_folder-requires-clause-judged
open_folder-requires-clause-judged g c κs within = record {
  given = record { net = c.args.texts.now.net.items; inputs = c.args.texts.now.inputs.items; script = None; kept = None };
  read = record { net = c.requires.net_read; inputs = c.requires.inputs_read };
  net_text = refl;
  inputs_text = refl;
  judged = record {
    of_net = subst (λ (net : Net). IsNetOf c.args.texts.now.net.items net) (sym c.deref-2.ensures) c.requires.net;
    of_inputs = subst (λ (net : Net). AreInputsOf c.args.texts.now.inputs.items net c.args.self.inputs) (sym c.deref-2.ensures)
        c.requires.inputs;
    of_script = tt;
  };
}
