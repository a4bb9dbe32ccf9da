use Rattle.std.proofs.Common.{List, sym, subst}
use Rattle.protocol.specs.Node.Common.{Channel, TakesTurn, Net, network_of}
use Rattle.node.specs.NodeOf.{view_of}
use Rattle.std.proofs.Common.{arith}
use Rattle.std.proofs.lemmas.Grind.{elements}
use Rattle.station.proofs.station.Station.install.Goals as goal

pub install-requires : goal.install-requires
install-requires g c = λ out.
    let done = c.args.done.now in
    subst (λ (list : List Channel). TakesTurn list done.job.value.process done.taken.items done.sent.items
    (view_of c.args.self.now.node).mode) (sym c.deref-2.ensures.value)
    (subst (λ (n : Net). TakesTurn (network_of n.program).channels done.job.value.process done.taken.items
    done.sent.items (view_of c.args.self.now.node).mode) (sym c.deref.ensures) (c.requires out))

pub returns-in-Ok-false-clause-step : goal.returns-in-Ok-false-clause-step
returns-in-Ok-false-clause-step g c = grind (arith, elements)

pub returns-in-Err-clause-refused : goal.returns-in-Err-clause-refused
returns-in-Err-clause-refused g c = grind (arith, elements)

pub returns-in-Ok-true-clause-step : goal.returns-in-Ok-true-clause-step
returns-in-Ok-true-clause-step g c = grind (arith, elements)
