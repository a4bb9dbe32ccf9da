use Rattle.std.proofs.Common.{◌≤◌, Result, sym, ap, subst, ◌∙◌}
use Rattle.protocol.specs.Node.Common.{network_of, with_epoch, Changes, StoreFault, RecordView, MAX_COUNT}
use Rattle.protocol.specs.Node.Common.{restored_mode, received_of}
use Rattle.ckpt_store.specs.Refusals.{refusal_to_raise}
use Rattle.node.proofs.Raising.{raised, refused_so}
use Rattle.node.proofs.Restores.{permanent_counts}
use Rattle.std.proofs.Common.{arith}
use Rattle.std.proofs.lemmas.Grind.{elements}
use Rattle.node.proofs.recover.raise_open.Goals as goal

pub recover-requires-clause-counts : goal.recover-requires-clause-counts
recover-requires-clause-counts g c = λ channel.
    subst (λ (r : RecordView). received_of r.permanent channel ≤ MAX_COUNT) c.in-Ok.ensures.1
    (permanent_counts g.C.StableCell g.C.SlotCell g.met.C.SlotCell.whole_may_stay c.args.store.now channel)

pub returns-in-Ok-raise_epoch : goal.returns-in-Ok-raise_epoch
returns-in-Ok-raise_epoch g c =
    let C = g.C.StableCell in
    let S = g.C.SlotCell in
    let met = g.met.C.SlotCell in
    raised C S (network_of c.args.net.now.program) c.args.home met.includes_now_whole met.whole_may_stay met.settled_whole c.args.store.now c.requires.settled c.requires.known
    c.raise_epoch.new.self c.in-Ok-recover.recovery
    (c.in-Ok-recover.ensures
    ∙ ap (λ (r : RecordView). restored_mode (network_of c.args.net.now.program) c.args.home (with_epoch r))
    (sym c.in-Ok.ensures.1))
    (subst (λ (r : Result (Unit {0}) StoreFault). Changes refusal_to_raise with_epoch c.args.store.now
    c.raise_epoch.new.self r) c.in-Ok-raise_epoch.is c.raise_epoch.ensures)

pub returns-in-Err : goal.returns-in-Err
returns-in-Err g c =
    let C = g.C.StableCell in
    let S = g.C.SlotCell in
    let met = g.met.C.SlotCell in
    refused_so C S (network_of c.args.net.now.program) c.args.home met.includes_now_whole met.whole_may_stay met.settled_whole c.args.store.now c.requires.settled c.requires.known
    met.only_now_whole c.raise_epoch.new.self c.in-Err.fault
    (subst (λ (r : Result (Unit {0}) StoreFault). Changes refusal_to_raise with_epoch c.args.store.now
    c.raise_epoch.new.self r) c.in-Err.is c.raise_epoch.ensures)

pub returns-then-kept-ge-MAX_COUNT : goal.returns-then-kept-ge-MAX_COUNT
returns-then-kept-ge-MAX_COUNT g c = grind (arith, elements)

pub returns-in_default : goal.returns-in_default
returns-in_default g c = grind (arith, elements)

pub returns-in_default-recover : goal.returns-in_default-recover
returns-in_default-recover g c = grind (arith, elements)
