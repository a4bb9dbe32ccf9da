use Rattle.std.proofs.Common.{inr, Some, Ok, Err, sym, subst, ap, ◌∙◌}
use Rattle.gate_cell.specs.ValueCall.{Looks}
use Rattle.ckpt_codec.specs.Common.{HeaderView, IsHeaderText}
use Rattle.ckpt_codec.specs.Faults.{IsHeaderFault}
use Rattle.ckpt_store.specs.Loading.{IsLook, IsRead, IsHeaderOf, IsHeaderWrong}
use Rattle.ckpt_store.proofs.Loads.{text_found, text_refused, look_done, look_refused, codec_look}
use Rattle.std.proofs.Common.{arith}
use Rattle.std.proofs.lemmas.Grind.{elements}
use Rattle.ckpt_store.proofs.loading.load_header.Goals as goal

pub returns-in-Err-clause-look : goal.returns-in-Err-clause-look
returns-in-Err-clause-look g c =
    let C = g.C.StableCell in
    let S = g.C.SlotCell in
    let get = c.in-Err.ensures in
    let old = c.args.cell.now in
    let new = c.get.new.self in
    subst (λ f. IsLook C S old new {X = HeaderView} (Err f)) (sym c.from.ensures)
    (look_refused C S old new c.in-Err.fault (λ e. get.unchanged (inr e)) get.cause
    (g.met.C.SlotCell.stands Looks old new get.beside) get.same_setup)

pub returns-in-Ok-read_header-clause-look : goal.returns-in-Ok-read_header-clause-look
returns-in-Ok-read_header-clause-look g c =
    let get = c.in-Ok.ensures in
    let old = c.args.cell.now in
    let new = c.get.new.self in
    look_done g.C.StableCell g.C.SlotCell old new c.in-Ok.bytes (Ok c.in-Ok-read_header.header) (λ e. absurd cc)
    (λ e. absurd cc) get.cause (g.met.C.SlotCell.stands Looks old new get.beside) get.same_setup

pub returns-in-Ok-read_header-clause-read : goal.returns-in-Ok-read_header-clause-read
returns-in-Ok-read_header-clause-read g c =
    let get = c.in-Ok.ensures in
    let read = c.in-Ok-read_header.ensures in
    let old = c.args.cell.now in
    text_found (λ (h : HeaderView) b. IsHeaderText h b) (λ b fault. IsHeaderFault b fault) (g.C.SlotCell.whole old).header
    c.as_slice.result.now
    (g.met.C.SlotCell.shows old ∙ ap Some (sym (c.as_slice.ensures.value ∙ get.value)))
    c.in-Ok-read_header.header read.found read.only read.each

pub returns-clause-look : goal.returns-clause-look
returns-clause-look g c =
    let C = g.C.StableCell in
    let S = g.C.SlotCell in
    let get = c.in-Ok.ensures in
    let old = c.args.cell.now in
    let new = c.get.new.self in
    subst (λ f. IsLook C S old new {X = HeaderView} (Err f)) (sym c.from-in-Err-read_header.ensures)
    (codec_look C S old new c.in-Ok.bytes c.in-Err-read_header.fault get.cause
    (g.met.C.SlotCell.stands Looks old new get.beside) get.same_setup)

pub returns-clause-read : goal.returns-clause-read
returns-clause-read g c =
    let get = c.in-Ok.ensures in
    let read = c.in-Err-read_header.ensures in
    let old = c.args.cell.now in
    let S = g.C.SlotCell in
    subst (λ f. IsRead (IsHeaderOf (S.whole old)) (IsHeaderWrong (S.whole old)) (Err f))
    (sym c.from-in-Err-read_header.ensures)
    (text_refused (λ (h : HeaderView) b. IsHeaderText h b) (λ b fault. IsHeaderFault b fault) (S.whole old).header
    c.as_slice.result.now
    (g.met.C.SlotCell.shows old ∙ ap Some (sym (c.as_slice.ensures.value ∙ get.value)))
    c.in-Err-read_header.fault read.only read.cause read.each)

pub returns-in-Err-clause-read : goal.returns-in-Err-clause-read
returns-in-Err-clause-read g c = grind (arith, elements)
