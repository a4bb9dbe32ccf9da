use Rattle.std.proofs.Common.{List, sym, subst, ◌∙◌}
use Rattle.rerun.specs.Whole.{inputs_in, net_in, table_in}
use Rattle.resuming.proofs.Following.{at_same, follow_then, limits_yet, stopped_still, taken_still}
use Rattle.resuming.proofs.catching_up.go_round.Goals as goal
use Rattle.resuming.specs.CatchingUp.{AllFollow, HaveAll, HaveTakenAll}
use Rattle.station.specs.OutputView.{outputs_view}

pub hand_over-requires : goal.hand_over-requires
hand_over-requires g c =
    let old = c.args.rerun.now in
    let new = c.run.new.self in
    let outputs = outputs_view g.O.Outlet.taken c.args.outputs.now.items in
    at_same (λ net inputs. AllFollow net inputs (table_in new) outputs) (net_in old) (net_in new) (inputs_in old)
    (inputs_in new) c.run.ensures.net c.run.ensures.inputs
    (follow_then (net_in old) (inputs_in old) c.args.limits.now (table_in old) (table_in new) outputs c.requires.listed
    c.requires.taken c.in_ok-stopped.stopped c.in_ok-stopped.ensures.stopped)

pub returns-then-not-branch-clause-taken : goal.returns-then-not-branch-clause-taken
returns-then-not-branch-clause-taken g c =
    let old = c.args.rerun.now in
    let new = c.run.new.self in
    let outputs = outputs_view g.O.Outlet.taken c.args.outputs.now.items in
    let then = outputs_view g.O.Outlet.taken c.hand_over.new.outputs.items in
    let still = c.in_ok-hand_over.ensures.still c.if-not-branch.true in
    let all = subst (HaveAll (net_in old) (inputs_in old) (table_in new)) still
    (at_same (λ net inputs. HaveAll net inputs (table_in new) then) (net_in new) (net_in old) (inputs_in new)
    (inputs_in old) (sym c.run.ensures.net) (sym c.run.ensures.inputs) c.in_ok-hand_over.ensures.all) in
    subst (HaveTakenAll (net_in old) (inputs_in old) (table_in new)) (sym still)
    (taken_still (net_in old) (inputs_in old) c.args.limits.now (table_in old) (table_in new) outputs c.requires.listed
    c.requires.taken c.in_ok-stopped.stopped c.in_ok-stopped.ensures.stopped all)

pub returns-then-not-branch-clause-since : goal.returns-then-not-branch-clause-since
returns-then-not-branch-clause-since g c =
    let old = c.args.rerun.now in
    let new = c.run.new.self in
    let outputs = outputs_view g.O.Outlet.taken c.args.outputs.now.items in
    let then = outputs_view g.O.Outlet.taken c.hand_over.new.outputs.items in
    let still = c.in_ok-hand_over.ensures.still c.if-not-branch.true in
    let all = subst (HaveAll (net_in old) (inputs_in old) (table_in new)) still
    (at_same (λ net inputs. HaveAll net inputs (table_in new) then) (net_in new) (net_in old) (inputs_in new)
    (inputs_in old) (sym c.run.ensures.net) (sym c.run.ensures.inputs) c.in_ok-hand_over.ensures.all) in
    stopped_still (net_in old) (inputs_in old) c.args.limits.now (table_in old) (table_in new) outputs c.requires.listed
    c.requires.taken c.in_ok-stopped.stopped c.in_ok-stopped.ensures.stopped all

pub let_go_all-requires : goal.let_go_all-requires
let_go_all-requires g c =
    let new = c.run.new.self in
    subst (λ (l : List _). HaveAll (net_in new) (inputs_in new) (table_in new) (outputs_view g.O.Outlet.taken l))
    (sym c.deref.ensures.value) c.in_ok-hand_over.ensures.all

pub returns-in-Reached-clause-taken : goal.returns-in-Reached-clause-taken
returns-in-Reached-clause-taken g c =
    let old = c.args.rerun.now in
    let new = c.run.new.self in
    let last = c.let_go_all.new.rerun in
    let outputs = outputs_view g.O.Outlet.taken c.hand_over.new.outputs.items in
    at_same (λ net inputs. HaveTakenAll net inputs (table_in last) outputs) (net_in new) (net_in old)
    (inputs_in new) (inputs_in old) (sym c.run.ensures.net) (sym c.run.ensures.inputs)
    (subst (λ (l : List _). HaveTakenAll (net_in new) (inputs_in new) (table_in last)
    (outputs_view g.O.Outlet.taken l)) c.deref.ensures.value c.let_go_all.ensures.taken)

pub returns-in-Rests : goal.returns-in-Rests
returns-in-Rests g c =
    let old = c.args.rerun.now in
    let new = c.run.new.self in
    let last = c.let_go_all.new.rerun in
    let outputs = outputs_view g.O.Outlet.taken c.hand_over.new.outputs.items in
    record {
      taken = at_same (λ net inputs. HaveTakenAll net inputs (table_in last) outputs) (net_in new) (net_in old)
          (inputs_in new) (inputs_in old) (sym c.run.ensures.net) (sym c.run.ensures.inputs)
          (subst (λ (l : List _). HaveTakenAll (net_in new) (inputs_in new) (table_in last)
          (outputs_view g.O.Outlet.taken l)) c.deref.ensures.value c.let_go_all.ensures.taken);
      since = tt;
      gone_on = c.in_ok-hand_over.ensures.gone_on;
      unfailed = c.in_ok-hand_over.ensures.unfailed;
      fault = tt;
      within = limits_yet (net_in old) c.args.limits.now (table_in old) (table_in new) (table_in last)
          c.run.ensures.within c.let_go_all.ensures.ends;
      net = c.let_go_all.ensures.net ∙ c.run.ensures.net;
      inputs = c.let_go_all.ensures.inputs ∙ c.run.ensures.inputs;
    }
