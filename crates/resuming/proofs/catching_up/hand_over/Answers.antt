use Rattle.std.proofs.Common.{◌≡◌, ◌+◌, ◌<◌, false, List, length, refl, sym, ap, subst, ◌∙◌, arith, rules}
use Rattle.std.specs.Prelude.{slice_get, slice_set, Some}
use Rattle.std.proofs.lemmas.Option.{slice_get-get_or}
use Rattle.std.proofs.lemmas.Result.{err_from_is_err_and}
use Rattle.protocol.specs.World.Common.{OutputView}
use Rattle.protocol_laws.specs.World.OutputLaws.{map_at}
use Rattle.rerun.specs.Whole.{inputs_in, net_in, table_in}
use Rattle.resuming.proofs.Following.{AreTaking, all_taken, as_many, behind_by, gone_one, gone_twice, map_set, none_taken, same_count}
use Rattle.resuming.proofs.Following.{one_taken}
use Rattle.resuming.proofs.catching_up.hand_over.Goals as goal
use Rattle.resuming.proofs.catching_up.hand_over.Goals.{then-any, else-any}
use Rattle.resuming.specs.CatchingUp.{HaveGoneOn}
use Rattle.station.specs.OutputView.{output_view, outputs_view}

pub loop-place-init : goal.loop-place-init
loop-place-init g c =
    let rerun = c.args.rerun.now in
    record {
      long = c.len-place-end.ensures ∙ c.args.outputs.now.ok.0;
      so_far = none_taken (net_in rerun) (inputs_in rerun) (table_in rerun)
          (outputs_view g.O.Outlet.taken c.args.outputs.now.items) c.requires;
      unfailed = refl;
    }

pub hand_one-requires : goal.hand_one-requires
hand_one-requires g c =
    let outputs = c.loop-place.outputs.items in
    let place = c.loop-place.place in
    let output = c.index_mut.result.now in
    let within : place < length outputs = omega arith in
    let there : slice_get outputs place ≡ Some output =
    slice_get-get_or outputs place output within ∙ ap Some (sym c.index_mut.ensures.value) in
    c.loop-place.invariant.so_far.waiting place (output_view g.O.Outlet.taken output) (omega arith)
    (map_at (output_view g.O.Outlet.taken) outputs place output there)

pub returns-in_err-moved-clause-gone_on : goal.returns-in_err-moved-clause-gone_on
returns-in_err-moved-clause-gone_on g c =
    let outputs = c.loop-place.outputs.items in
    let place = c.loop-place.place in
    let output = c.index_mut.result.now in
    let new = c.hand_one.new.output in
    let view = output_view g.O.Outlet.taken in
    let within : place < length outputs = omega arith in
    let there : slice_get outputs place ≡ Some output =
    slice_get-get_or outputs place output within ∙ ap Some (sym c.index_mut.ensures.value) in
    let seen = map_at view outputs place output there in
    let before = outputs_view g.O.Outlet.taken c.args.outputs.now.items in
    let now = outputs_view g.O.Outlet.taken outputs in
    subst (HaveGoneOn before) (sym (map_set view outputs place new))
    (gone_twice before now (slice_set now place (view new)) c.loop-place.invariant.so_far.gone_on
    (gone_one now place (view output) (view new) seen c.hand_one.ensures.channel c.hand_one.ensures.gone_on))

pub returns-in_err-moved-clause-fault : goal.returns-in_err-moved-clause-fault
returns-in_err-moved-clause-fault g c =
    let outputs = c.loop-place.outputs.items in
    let place = c.loop-place.place in
    let output = c.index_mut.result.now in
    let within : place < length outputs = omega arith in
    let there : slice_get outputs place ≡ Some output =
    slice_get-get_or outputs place output within ∙ ap Some (sym c.index_mut.ensures.value) in
    let p = err_from_is_err_and c.from_residual.result c.from_residual.ensures.1 in
    rw (p.1, p.2) (behind_by g.O.Outlet.failures c.args.outputs.now.items outputs place output c.hand_one.new.output _ there
    c.loop-place.invariant.unfailed c.in_err-moved.ensures.fault)

pub loop-place-preserved : goal.loop-place-preserved
loop-place-preserved g c =
    let rerun = c.args.rerun.now in
    let outputs = c.loop-place.outputs.items in
    let place = c.loop-place.place in
    let output = c.index_mut.result.now in
    let new = c.hand_one.new.output in
    let moved = c.in_ok-moved.moved in
    let view = output_view g.O.Outlet.taken in
    let within : place < length outputs = omega arith in
    let there : slice_get outputs place ≡ Some output =
    slice_get-get_or outputs place output within ∙ ap Some (sym c.index_mut.ensures.value) in
    let seen = map_at view outputs place output there in
    let before = outputs_view g.O.Outlet.taken c.args.outputs.now.items in
    let now = outputs_view g.O.Outlet.taken outputs in
    let long : c.len-place-end.result ≡ length (slice_set outputs place new) = search rules in
    let neither : c.if-any.any ≡ false → (c.loop-place.any ≡ false) × (moved ≡ false) =
    λ none. elim c.if-any.branch [
      | then-any w ↦ absurd (cc)
      | else-any w ↦ (w.if-any.false, sym w.any-is ∙ none)
    ] in
    let step = one_taken (net_in rerun) (inputs_in rerun) (table_in rerun) place (place + 1) before now
    c.loop-place.any moved c.if-any.any (view output) (view new) c.loop-place.invariant.so_far refl seen
    c.hand_one.ensures.channel c.hand_one.ensures.gone_on c.in_ok-moved.ensures.all c.in_ok-moved.ensures.still
    neither in
    record {
      long = long;
      so_far = subst (λ (l : List OutputView). AreTaking (net_in rerun) (inputs_in rerun) (table_in rerun) (place + 1)
          before l c.if-any.any) (sym (map_set view outputs place new)) step;
      unfailed = same_count g.O.Outlet.failures outputs place output new there c.in_ok-moved.ensures.unfailed
          ∙ c.loop-place.invariant.unfailed;
    }

pub returns-clause-all : goal.returns-clause-all
returns-clause-all g c =
    let rerun = c.args.rerun.now in
    let outputs = c.loop-place.outputs.items in
    let many = as_many (output_view g.O.Outlet.taken) outputs in
    all_taken (net_in rerun) (inputs_in rerun) (table_in rerun) c.loop-place.place
    (outputs_view g.O.Outlet.taken c.args.outputs.now.items) (outputs_view g.O.Outlet.taken outputs) c.loop-place.any
    c.loop-place.invariant.so_far (omega (arith, many))
