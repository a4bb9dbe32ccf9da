use Rattle.std.proofs.Common.{◌≡◌, ◌∙◌, ◌∷◌, refl}
use Rattle.std.specs.Prelude.{Ok, Err}
use Rattle.host.specs.Requests.{Said}
use Rattle.host_ports.specs.Ports.{said}
use Rattle.host_ports.proofs.Saying.{asked_more, said_all, said_nothing, stand_said}
use Rattle.host_ports.proofs.ports.PortsOutside.flush.Goals as goal

pub invariant_of-self-in-Ok : goal.invariant_of-self-in-Ok
invariant_of-self-in-Ok g c =
    let asked : g.H.Host.asked c.say.new.self ≡ Said c.args.self.now.text.items (Ok tt) ∷ g.H.Host.asked c.args.self.now.host =
    c.say.ensures ∙ (rw (c.in-Ok.is) refl) in
    record {
      spoken = said_all _ _ _ _ _ asked c.clear.ensures.items c.args.self.now.spoken;
      asked_on = asked_more _ _ _ _ asked (said _ _ refl) c.args.self.now.asked_on;
      given = c.args.self.now.given;
      stand = stand_said _ _ _ _ _ _ _ asked c.args.self.now.stand;
    }

pub invariant_of-self-in-Err : goal.invariant_of-self-in-Err
invariant_of-self-in-Err g c =
    let asked : g.H.Host.asked c.say.new.self ≡ Said c.args.self.now.text.items (Err c.in-Err.field-0) ∷ g.H.Host.asked c.args.self.now.host =
    c.say.ensures ∙ (rw (c.in-Err.is) refl) in
    record {
      spoken = said_nothing _ _ _ _ _ _ asked c.args.self.now.spoken;
      asked_on = asked_more _ _ _ _ asked (said _ _ refl) c.args.self.now.asked_on;
      given = c.args.self.now.given;
      stand = stand_said _ _ _ _ _ _ _ asked c.args.self.now.stand;
    }
