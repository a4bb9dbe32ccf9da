use Rattle.std.proofs.Common.{◌≡◌, ℕ, ◌<◌, List, length, get_or, Some, refl, sym, subst, map, ◌∙◌}
use Rattle.std.specs.Prelude.{slice_get}
use Rattle.protocol.specs.Node.Common.{code_of, network_of, standing_of}
use Rattle.kahn_net.specs.declared.program.Program.{Program}
use Rattle.kahn_net.specs.declared.program.Process.{Process}
use Rattle.station.proofs.Rests.{code_found, rest_at, rest_past, got_of}
use Rattle.station.specs.StationView.{station_view}
use Rattle.std.proofs.Common.{arith}
use Rattle.std.proofs.lemmas.Grind.{elements}
use Rattle.station.proofs.quiet.is_at_rest.Goals as goal

there : (program : Program) (ps : List Process) (n again : ℕ) (p : Process) → ps ≡ program.processes.items
    → n < length ps → p ≡ get_or ps n p → n ≡ again → slice_get (network_of program).codes again ≡ Some (code_of p)
there program ps n again p same within is one =
    subst (λ (k : ℕ). slice_get (network_of program).codes k ≡ Some (code_of p)) one
    (code_found program ps n n p same refl within is)

pub returns-in-Begin : goal.returns-in-Begin
returns-in-Begin g c =
    rest_at c.args.net.now.program c.args.inputs.now.came
    (map (station_view g.O.Outlet.taken g.O.Outlet.failures) c.args.stations.now) c.args.image.now
    c.deref.result.now c.from.result c.saved.inside.number c.in-Some.field-0.now (standing_of c.saved.inside.state)
    _ c.next_act.result _
    c.deref.ensures.value c.from.ensures c.in-Some.ensures.lookup.3.0 c.in-Some.ensures.lookup.1
    (c.next_act.ensures (code_of c.in-Some.field-0.now)
    (there c.args.net.now.program c.deref.result.now c.from.result c.from-in-Some.result c.in-Some.field-0.now
    c.deref.ensures.value c.in-Some.ensures.lookup.3.0 c.in-Some.ensures.lookup.1
    (c.from.ensures ∙ sym c.from-in-Some.ensures)))
    c.in-Begin.is c.saved.view_is

pub returns-in-Get : goal.returns-in-Get
returns-in-Get g c =
    got_of _ (network_of c.args.net.now.program) _ _ c.args.image.now _ _ c.has_got_all.ensures
    c.deref-in-Get.ensures.value
    ∙ rest_at c.args.net.now.program c.args.inputs.now.came
    (map (station_view g.O.Outlet.taken g.O.Outlet.failures) c.args.stations.now) c.args.image.now
    c.deref.result.now c.from.result c.saved.inside.number c.in-Some.field-0.now (standing_of c.saved.inside.state)
    _ c.next_act.result _
    c.deref.ensures.value c.from.ensures c.in-Some.ensures.lookup.3.0 c.in-Some.ensures.lookup.1
    (c.next_act.ensures (code_of c.in-Some.field-0.now)
    (there c.args.net.now.program c.deref.result.now c.from.result c.from-in-Some.result c.in-Some.field-0.now
    c.deref.ensures.value c.in-Some.ensures.lookup.3.0 c.in-Some.ensures.lookup.1
    (c.from.ensures ∙ sym c.from-in-Some.ensures)))
    c.in-Get.is c.saved.view_is

pub returns-in-Put : goal.returns-in-Put
returns-in-Put g c =
    rest_at c.args.net.now.program c.args.inputs.now.came
    (map (station_view g.O.Outlet.taken g.O.Outlet.failures) c.args.stations.now) c.args.image.now
    c.deref.result.now c.from.result c.saved.inside.number c.in-Some.field-0.now (standing_of c.saved.inside.state)
    _ c.next_act.result _
    c.deref.ensures.value c.from.ensures c.in-Some.ensures.lookup.3.0 c.in-Some.ensures.lookup.1
    (c.next_act.ensures (code_of c.in-Some.field-0.now)
    (there c.args.net.now.program c.deref.result.now c.from.result c.from-in-Some.result c.in-Some.field-0.now
    c.deref.ensures.value c.in-Some.ensures.lookup.3.0 c.in-Some.ensures.lookup.1
    (c.from.ensures ∙ sym c.from-in-Some.ensures)))
    c.in-Put.is c.saved.view_is

pub returns-in-Nothing : goal.returns-in-Nothing
returns-in-Nothing g c =
    rest_at c.args.net.now.program c.args.inputs.now.came
    (map (station_view g.O.Outlet.taken g.O.Outlet.failures) c.args.stations.now) c.args.image.now
    c.deref.result.now c.from.result c.saved.inside.number c.in-Some.field-0.now (standing_of c.saved.inside.state)
    _ c.next_act.result _
    c.deref.ensures.value c.from.ensures c.in-Some.ensures.lookup.3.0 c.in-Some.ensures.lookup.1
    (c.next_act.ensures (code_of c.in-Some.field-0.now)
    (there c.args.net.now.program c.deref.result.now c.from.result c.from-in-Some.result c.in-Some.field-0.now
    c.deref.ensures.value c.in-Some.ensures.lookup.3.0 c.in-Some.ensures.lookup.1
    (c.from.ensures ∙ sym c.from-in-Some.ensures)))
    c.in-Nothing.is c.saved.view_is

pub returns-in-None : goal.returns-in-None
returns-in-None g c =
    rest_past c.args.net.now.program c.args.inputs.now.came
    (map (station_view g.O.Outlet.taken g.O.Outlet.failures) c.args.stations.now) c.args.image.now
    c.deref.result.now c.from.result c.saved.inside.number (standing_of c.saved.inside.state) _
    c.deref.ensures.value c.from.ensures c.in-None.ensures.lookup.3 c.saved.view_is

pub has_got_all-requires : goal.has_got_all-requires
has_got_all-requires g c = grind (arith, elements)
