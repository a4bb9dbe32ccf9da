use Rattle.std.proofs.Common.{refl}
use Rattle.gate_cell.specs.ValueCall.{Looks}
use Rattle.ckpt_store.proofs.Loads.{kept_untouched}
use Rattle.ckpt_store.proofs.store.Store.recount.Goals as goal

pub invariant_of-self : goal.invariant_of-self
invariant_of-self g c =
    let C = g.C.StableCell in
    let laws = g.met.C.SlotCell in
    let old = c.args.self.now.cell in
    let new = c.recount.new.self in
    let looks = laws.stands Looks old new c.recount.ensures.beside in
    record {
      kept =
          kept_untouched C g.C.SlotCell old new c.args.self.now.known
          (λ left le might. laws.includes_now_whole new (C.moment old) left le might) c.args.self.now.kept
          looks.same c.recount.ensures.same_readiness looks.any_moment;
    }

pub returns-clause-untouched : goal.returns-clause-untouched
returns-clause-untouched g c =
    let recount = c.recount.ensures in
    let looks = g.met.C.SlotCell.stands Looks c.args.self.now.cell c.recount.new.self recount.beside in
    record {
      same_record = refl;
      same_whole = looks.same;
      any_moment = looks.any_moment;
      same_room = recount.same_room;
      same_slot_room = looks.same_slot_room;
      same_readiness = recount.same_readiness;
      failures = recount.failures;
    }
