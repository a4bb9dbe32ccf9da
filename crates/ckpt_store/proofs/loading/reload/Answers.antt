use Rattle.std.proofs.Common.{◌≡◌, true, false, Result, Ok, Err}
use Rattle.std.specs.Prelude.{OnOk, IfErr}
use Rattle.std.specs.Result.{is_err}
use Rattle.gate_cell.specs.ValueCall.{Looks}
use Rattle.gate_cell.specs.declared.fault.CellFault.{CellFault}
use Rattle.gate_cell.specs.declared.fault.CellFault.TheVariants.{Device}
use Rattle.ckpt_store.proofs.Loads.{kept_unknown, reload_done, reload_refused, reopen_failed}
use Rattle.ckpt_store.proofs.loading.reload.Goals as goal

-- what holds of an `Ok` holds where the result isn't an `Err`
at_ok : {T E P : Type 0} (r : Result T E) → false ≡ is_err r → OnOk r P → P
at_ok (Ok x) is p = p
at_ok (Err e) is p = cc

-- and what holds of an `Err` where it is one
at_err : {T P : Type 0} (r : Result T CellFault) → true ≡ is_err r → IfErr r (λ e. (e ≡ Device) × P) → P
at_err (Ok x) is p = cc
at_err (Err e) is p = p.1

pub returns-then-is_err-clause-kept : goal.returns-then-is_err-clause-kept
returns-then-is_err-clause-kept g c =
    let C = g.C.StableCell in
    let laws = g.met.C.SlotCell in
    let old = c.args.cell.now in
    let mid = c.reopen.new.self in
    kept_unknown C g.C.SlotCell old mid c.args.known.now
    (λ left le might. laws.includes_now_whole mid (C.moment old) left le might) c.requires
    (laws.stands Looks old mid c.reopen.ensures.beside).any_moment

pub returns-then-is_err-clause-reload : goal.returns-then-is_err-clause-reload
returns-then-is_err-clause-reload g c =
    let old = c.args.cell.now in
    let mid = c.reopen.new.self in
    reopen_failed g.C.StableCell g.C.SlotCell old mid
    (at_err c.reopen.result c.if-is_err.ensures.value c.reopen.ensures.cause.failed)
    (g.met.C.SlotCell.stands Looks old mid c.reopen.ensures.beside) c.reopen.ensures.same_setup

pub returns-in-Ok-clause-reload : goal.returns-in-Ok-clause-reload
returns-in-Ok-clause-reload g c =
    let C = g.C.StableCell in
    let laws = g.met.C.SlotCell in
    let old = c.args.cell.now in
    let mid = c.reopen.new.self in
    let fine = c.if-is_err.ensures.value in
    reload_done C g.C.SlotCell old mid c.load.new.cell
    (λ left le might. laws.includes_now_whole mid (C.moment old) left le might)
    (at_ok c.reopen.result fine c.reopen.ensures.ready) (laws.stands Looks old mid c.reopen.ensures.beside)
    c.reopen.ensures.same_setup (at_ok c.reopen.result fine c.reopen.ensures.cause.otherwise) c.in-Ok.kept
    c.in-Ok.ensures.load

pub returns-in-Err-clause-kept : goal.returns-in-Err-clause-kept
returns-in-Err-clause-kept g c =
    let C = g.C.StableCell in
    let S = g.C.SlotCell in
    let laws = g.met.C.SlotCell in
    let old = c.args.cell.now in
    let mid = c.reopen.new.self in
    let new = c.load.new.cell in
    kept_unknown C S mid new _ (λ left le might. laws.includes_now_whole new (C.moment mid) left le might)
    (kept_unknown C S old mid c.args.known.now
    (λ left le might. laws.includes_now_whole mid (C.moment old) left le might) c.requires
    (laws.stands Looks old mid c.reopen.ensures.beside).any_moment) c.in-Err.ensures.load.any_moment

pub returns-in-Err-clause-reload : goal.returns-in-Err-clause-reload
returns-in-Err-clause-reload g c =
    let C = g.C.StableCell in
    let laws = g.met.C.SlotCell in
    let old = c.args.cell.now in
    let mid = c.reopen.new.self in
    let fine = c.if-is_err.ensures.value in
    reload_refused C g.C.SlotCell old mid c.load.new.cell
    (λ left le might. laws.includes_now_whole mid (C.moment old) left le might)
    (at_ok c.reopen.result fine c.reopen.ensures.ready) (laws.stands Looks old mid c.reopen.ensures.beside)
    c.reopen.ensures.same_setup (at_ok c.reopen.result fine c.reopen.ensures.cause.otherwise) c.in-Err.fault
    c.requires.leaves (laws.whole_may_stay old) c.in-Err.ensures.load
