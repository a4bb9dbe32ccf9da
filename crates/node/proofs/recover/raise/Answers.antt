use Rattle.std.proofs.Common.{Result, subst}
use Rattle.protocol.specs.Node.Common.{network_of, StoreFault}
use Rattle.ckpt_store.specs.StoreView.{Reopens}
use Rattle.node.proofs.Raising.{not_reopened, reopened_then}
use Rattle.node.proofs.recover.raise.Goals as goal

pub returns-in-Ok : goal.returns-in-Ok
returns-in-Ok g c =
    let C = g.C.StableCell in
    let S = g.C.SlotCell in
    let met = g.met.C.SlotCell in
    reopened_then C S (network_of c.args.net.now.program) c.args.home met.includes_now_whole met.whole_may_stay met.settled_whole c.args.store.now c.requires c.reopen.new.self
    c.raise_open.new.store c.raise_open.result
    (subst (λ (r : Result (Unit {0}) StoreFault). Reopens c.args.store.now c.reopen.new.self r) c.in-Ok.is
    c.reopen.ensures) c.raise_open.ensures

pub returns-in-Err : goal.returns-in-Err
returns-in-Err g c =
    let C = g.C.StableCell in
    let S = g.C.SlotCell in
    let met = g.met.C.SlotCell in
    not_reopened C S (network_of c.args.net.now.program) c.args.home met.includes_now_whole met.whole_may_stay met.settled_whole c.args.store.now c.requires c.reopen.new.self
    c.in-Err.fault
    (subst (λ (r : Result (Unit {0}) StoreFault). Reopens c.args.store.now c.reopen.new.self r) c.in-Err.is
    c.reopen.ensures)
