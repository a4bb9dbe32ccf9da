use Rattle.std.proofs.Common.{refl}
use Rattle.gate_cell.specs.ValueCall.{Looks}
use Rattle.ckpt_store.proofs.Loads.{kept_untouched}
use Rattle.ckpt_store.proofs.store.Store.arm.Goals as goal

pub invariant_of-self : goal.invariant_of-self
invariant_of-self g c =
    let C = g.C.StableCell in
    let laws = g.met.C.SlotCell in
    let old = c.args.self.now.cell in
    let new = c.arm.new.self in
    let looks = laws.stands Looks old new c.arm.ensures.beside in
    record {
      kept =
          kept_untouched C g.C.SlotCell old new c.args.self.now.known
          (λ left le might. laws.includes_now_whole new (C.moment old) left le might) c.args.self.now.kept
          looks.same c.arm.ensures.same_readiness looks.any_moment;
    }

pub returns-clause-untouched : goal.returns-clause-untouched
returns-clause-untouched g c =
    let arm = c.arm.ensures in
    let looks = g.met.C.SlotCell.stands Looks c.args.self.now.cell c.arm.new.self arm.beside in
    record {
      same_record = refl;
      same_whole = looks.same;
      any_moment = looks.any_moment;
      same_room = arm.same_room;
      same_slot_room = looks.same_slot_room;
      same_readiness = arm.same_readiness;
      failures = arm.failures;
    }
