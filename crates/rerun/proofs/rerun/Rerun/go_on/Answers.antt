use Rattle.std.proofs.Common.{◌≡◌, ◌∙◌, ℤ, List, true, subst, arith}
use Rattle.std.specs.Prelude.{OnOk}
use Rattle.std.proofs.lemmas.Grind.{elements}
use Rattle.kahn_net.specs.Syntax.{network_of}
use Rattle.rerun.specs.TableOf.{table_view}
use Rattle.rerun.specs.Tables.{Turned, can_move}
use Rattle.rerun.proofs.Kept.{ordered_kept, rerun_kept, limits_kept, moves_kept, steps_kept}
use Rattle.rerun.proofs.rerun.Rerun.go_on.Goals as goal

pub invariant_of-self-2 : goal.invariant_of-self-2
invariant_of-self-2 c =
    let rerun = c.args.self.now in
    let net = network_of rerun.net.value.program in
    let inputs : c.as_slice-2.result.now ≡ rerun.inputs.value = c.as_slice-2.ensures ∙ c.deref-4.ensures in
    let turned = subst (λ (i : List (List ℤ)). OnOk c.take_turn.result (∥ Turned net i c.args.limits.now c.args.process
    (table_view rerun.table) (table_view c.take_turn.new.self) ∥₁)) inputs c.take_turn.ensures.ok in
    record {
      fits = rerun.fits;
      ordered = ordered_kept net rerun.inputs.value c.args.limits.now c.args.process (table_view rerun.table)
          (table_view c.take_turn.new.self) rerun.net.value.valid rerun.fits rerun.ordered rerun.reached
          c.take_turn.result
          turned c.take_turn.ensures.err;
      reached = rerun_kept net rerun.inputs.value c.args.limits.now c.args.process (table_view rerun.table)
          (table_view c.take_turn.new.self) rerun.net.value.valid rerun.fits rerun.ordered rerun.reached
          c.take_turn.result
          turned c.take_turn.ensures.err;
    }

pub returns-in-Ok-clause-within : goal.returns-in-Ok-clause-within
returns-in-Ok-clause-within c =
    let rerun = c.args.self.now in
    let net = network_of rerun.net.value.program in
    let inputs : c.as_slice-2.result.now ≡ rerun.inputs.value = c.as_slice-2.ensures ∙ c.deref-4.ensures in
    limits_kept net rerun.inputs.value c.args.limits.now c.args.process (table_view rerun.table)
    (table_view c.take_turn.new.self) rerun.net.value.valid rerun.fits rerun.ordered rerun.reached
    (subst (λ (i : List (List ℤ)). ∥ Turned net i c.args.limits.now c.args.process (table_view rerun.table)
    (table_view c.take_turn.new.self) ∥₁) inputs c.in-Ok.ensures.ok)

pub returns-in-Ok-clause-goes : goal.returns-in-Ok-clause-goes
returns-in-Ok-clause-goes c moved =
    let rerun = c.args.self.now in
    let net = network_of rerun.net.value.program in
    let inputs : c.as_slice-2.result.now ≡ rerun.inputs.value = c.as_slice-2.ensures ∙ c.deref-4.ensures in
    steps_kept net rerun.inputs.value c.args.limits.now c.args.process (table_view rerun.table)
    (table_view c.take_turn.new.self) rerun.net.value.valid rerun.fits rerun.ordered rerun.reached
    (subst (λ (i : List (List ℤ)). ∥ Turned net i c.args.limits.now c.args.process (table_view rerun.table)
    (table_view c.take_turn.new.self) ∥₁) inputs c.in-Ok.ensures.ok)

pub returns-in-Ok-clause-moves : goal.returns-in-Ok-clause-moves
returns-in-Ok-clause-moves c moved =
    let rerun = c.args.self.now in
    let net = network_of rerun.net.value.program in
    let inputs : c.as_slice-2.result.now ≡ rerun.inputs.value = c.as_slice-2.ensures ∙ c.deref-4.ensures in
    let can : can_move net rerun.inputs.value c.args.limits.now (table_view rerun.table) c.args.process ≡ true =
    grind (arith, elements) in
    moves_kept net rerun.inputs.value c.args.limits.now c.args.process (table_view rerun.table)
    (table_view c.take_turn.new.self) rerun.net.value.valid rerun.fits rerun.ordered rerun.reached can
    (subst (λ (i : List (List ℤ)). ∥ Turned net i c.args.limits.now c.args.process (table_view rerun.table)
    (table_view c.take_turn.new.self) ∥₁) inputs c.in-Ok.ensures.ok)
