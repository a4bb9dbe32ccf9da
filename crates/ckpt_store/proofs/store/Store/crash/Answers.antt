use Rattle.std.proofs.Common.{◌≡◌, sym, subst}
use Rattle.std.specs.Prelude.{IsTrue}
use Rattle.gate_cell.specs.ValueCall.{Crashes}
use Rattle.slot_cell.specs.Whole.{Whole}
use Rattle.ckpt_store.specs.Spelling.{Spells}
use Rattle.ckpt_store.proofs.Loads.{kept_unknown}
use Rattle.ckpt_store.proofs.Seen.{ready_known, known_held}
use Rattle.ckpt_store.proofs.store.Store.crash.Goals as goal

pub invariant_of-self : goal.invariant_of-self
invariant_of-self g c =
    let C = g.C.StableCell in
    let laws = g.met.C.SlotCell in
    let old = c.args.self.now.cell in
    let new = c.crash.new.self in
    let crash = laws.stands Crashes old new c.crash.ensures.beside in
    record {
      kept = kept_unknown C g.C.SlotCell old new c.args.self.now.known
          (λ left le might. laws.includes_now_whole new (C.moment old) left le might) c.args.self.now.kept
          crash.any_moment;
    }

pub returns-clause-left : goal.returns-clause-left
returns-clause-left g c =
    let C = g.C.StableCell in
    let laws = g.met.C.SlotCell in
    let old = c.args.self.now.cell in
    let new = c.crash.new.self in
    let crash = laws.stands Crashes old new c.crash.ensures.beside in
    crash.any_moment.each (g.C.SlotCell.whole new)
    (laws.includes_now_whole new (C.moment old) (g.C.SlotCell.whole new) crash.any_moment.later
    (laws.whole_may_stay new))

-- a ready store's cell leaves what it holds alone
pub returns-clause-same : goal.returns-clause-same
returns-clause-same g c = λ kept is.
    let C = g.C.StableCell in
    let S = g.C.SlotCell in
    let laws = g.met.C.SlotCell in
    let store = c.args.self.now in
    let new = c.crash.new.self in
    let crash = laws.stands Crashes store.cell new c.crash.ensures.beside in
    let ready : IsTrue (C.is_ready store.cell) = ready_known C S store kept is in
    let same : S.whole new ≡ S.whole store.cell =
    laws.settled_whole store.cell ready (S.whole new) (crash.any_moment.each (S.whole new)
    (laws.includes_now_whole new (C.moment store.cell) (S.whole new) crash.any_moment.later
    (laws.whole_may_stay new))) in
    subst (λ (w : Whole). Spells kept w) (sym same) (known_held C S store kept is)

pub returns-clause-any_moment : goal.returns-clause-any_moment
returns-clause-any_moment g c =
    (g.met.C.SlotCell.stands Crashes c.args.self.now.cell c.crash.new.self c.crash.ensures.beside).any_moment
