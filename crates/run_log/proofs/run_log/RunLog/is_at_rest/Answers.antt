use Rattle.std.proofs.Common.{◌≡◌, ◌<◌, ◌∙◌, Bool, true, false, not, ℕ, Some, slice_get, refl, sym, ap, arith}
use Rattle.std.specs.Prelude.{IsTrue}
use Rattle.std.proofs.lemmas.Option.{slice_get-get_or}
use Rattle.std.proofs.Math.Logic.{∥∥₁_elim}
use Rattle.std.proofs.Props.{props}
use Rattle.protocol.specs.World.Common.{NODES, choice}
use Rattle.protocol.specs.World.RoomNeeds.{needed_for}
use Rattle.replay.specs.Replay.{IsSilence, has_idled}
use Rattle.replay.specs.Rests.{AllRest, is_idle}
use Rattle.replay.specs.declared.kept.Silence.TheVariants.{Nothing}
use Rattle.replay.proofs.Rests.{rest_is_silence, turn_is}
use Rattle.world.specs.WholeView.{world_of}
use Rattle.run_log.proofs.run_log.RunLog.is_at_rest.Goals as goal

not_true : (b : Bool) → IsTrue (not b) → b ≡ false
not_true true is = absurd (cc)
not_true false is = refl

pub returns-clause-rests : goal.returns-clause-rests
returns-clause-rests g c done =
    let log = c.args.self.now in
    let world = world_of log.armed.world in
    let node = c.args.node in
    let noted = c.in-Some.rests.now in
    let found = c.in-Some.ensures.lookup in
    let there : slice_get log.resting node ≡ Some noted =
    ap (λ (k : ℕ). slice_get log.resting k) (sym c.from-2.ensures)
    ∙ (slice_get-get_or log.resting c.from-2.result noted found.3.0 ∙ ap Some (sym found.1)) in
    let told : noted ≡ true = cc c.if-not-rests.false in
    let few : node < NODES = omega (arith, c.from.ensures, c.if-from-ge-NODES.false) in
    let silence : AllRest log.resting world → IsSilence g.ThisRun.Run.script (Nothing node) log.passed world =
    λ all. rest_is_silence g.ThisRun.Run.script log.passed world node (all.rest node (there ∙ ap Some told))
    (sym (c.has_packet.ensures.due few) ∙ not_true c.has_packet.result done) in
    let idle : is_idle (choice world node) ≡ true =
    ∥∥₁_elim log.rest (hlevel props) (λ all. ap is_idle (silence all).1.1) in
    let idled : has_idled world node ≡ true = ∥∥₁_elim log.rest (hlevel props) (λ all. (silence all).0) in
    sym (turn_is world node (choice world node) true true (needed_for world node) refl (sym idle) (sym idled) refl)
