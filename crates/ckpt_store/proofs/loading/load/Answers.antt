use Rattle.std.proofs.Common.{◌≡◌, ◌-◌, ◌≤◌, true, false, Some, Ok, sym, subst, ap, rules}
use Rattle.slot_cell.specs.Whole.{slot_in}
use Rattle.ckpt_codec.specs.Common.{RecordView, HeaderView, IsRecord, spelled_length}
use Rattle.ckpt_store.specs.Loading.{IsLoad}
use Rattle.ckpt_store.specs.Spelling.{IsKept, is_short, known_as}
use Rattle.ckpt_store.proofs.Loads.{header_refused, image_refused, held_refused, too_long, loaded, loaded_kept, read_is_record}
use Rattle.ckpt_store.proofs.Spelled.{slot_is_one}
use Rattle.ckpt_store.proofs.loading.load.Goals as goal

pub returns-in-Err-clause-load : goal.returns-in-Err-clause-load
returns-in-Err-clause-load g c =
    header_refused g.C.StableCell g.C.SlotCell (λ one t left le might. g.met.C.SlotCell.includes_now_whole one t left le might)
    c.args.cell.now c.load_header.new.cell c.in-Err.fault c.in-Err.ensures.look c.in-Err.ensures.read

pub load_image-requires : goal.load_image-requires
load_image-requires g c =
    let found = c.in-Ok.ensures.read.found in
    subst (λ (h : HeaderView). h.slot ≤ 1) (sym c.header.view_is) (slot_is_one c.in-Ok.header found.0 found.2)

pub returns-in-Err-load_image-clause-load : goal.returns-in-Err-load_image-clause-load
returns-in-Err-load_image-clause-load g c =
    image_refused g.C.StableCell g.C.SlotCell (λ one t left le might. g.met.C.SlotCell.includes_now_whole one t left le might)
    c.args.cell.now c.load_header.new.cell c.in-Ok.header c.in-Ok.ensures.look c.in-Ok.ensures.read
    c.load_image.new.cell c.header.inside.slot c.in-Err-load_image.fault
    (ap (λ (h : HeaderView). h.slot) c.header.view_is) c.in-Err-load_image.ensures.look
    c.in-Err-load_image.ensures.read

pub load_held-requires-clause-slot : goal.load_held-requires-clause-slot
load_held-requires-clause-slot g c =
    let found = c.in-Ok.ensures.read.found in
    slot_is_one c.in-Ok.header found.0 found.2

pub returns-in-Err-load_held-clause-load : goal.returns-in-Err-load_held-clause-load
returns-in-Err-load_held-clause-load g c =
    held_refused g.C.StableCell g.C.SlotCell (λ one t left le might. g.met.C.SlotCell.includes_now_whole one t left le might)
    c.args.cell.now c.load_header.new.cell c.in-Ok.header c.in-Ok.ensures.look c.in-Ok.ensures.read
    c.load_image.new.cell c.in-Ok-load_image.image c.header.inside.slot
    (ap (λ (h : HeaderView). h.slot) c.header.view_is) c.in-Ok-load_image.ensures.look c.in-Ok-load_image.ensures.read
    c.load_held.new.cell c.in-Err-load_held.fault c.in-Err-load_held.ensures.look c.in-Err-load_held.ensures.read

pub spelled_length-requires : goal.spelled_length-requires
spelled_length-requires g c =
    let w = g.C.SlotCell.whole in
    subst IsRecord (sym c.with_images-kept.ensures)
    (read_is_record (w c.args.cell.now) c.in-Ok.header c.in-Ok-load_image.image c.in-Ok-load_held.held
    (slot_in c.header.inside.slot (w c.load_header.new.cell)) (slot_in (1 - c.in-Ok.header.slot) (w c.load_image.new.cell))
    c.in-Ok.ensures.read.found c.in-Ok-load_image.ensures.read.found c.in-Ok-load_held.ensures.read.found)

pub returns-then-not-is_short-clause-load : goal.returns-then-not-is_short-clause-load
returns-then-not-is_short-clause-load g c =
    let long : is_short (spelled_length c.with_images-kept.result) ≡ false = search rules in
    too_long g.C.StableCell g.C.SlotCell (λ one t left le might. g.met.C.SlotCell.includes_now_whole one t left le might)
    c.args.cell.now c.load_header.new.cell c.in-Ok.header c.in-Ok.ensures.look c.in-Ok.ensures.read
    c.load_image.new.cell c.in-Ok-load_image.image c.header.inside.slot
    (ap (λ (h : HeaderView). h.slot) c.header.view_is) c.in-Ok-load_image.ensures.look c.in-Ok-load_image.ensures.read
    c.load_held.new.cell c.in-Ok-load_held.held c.in-Ok-load_held.ensures.look c.in-Ok-load_held.ensures.read
    (subst (λ (r : RecordView). is_short (spelled_length r) ≡ false) c.with_images-kept.ensures long)

pub returns-clause-load : goal.returns-clause-load
returns-clause-load g c =
    let short : is_short (spelled_length c.with_images-kept.result) ≡ true = search rules in
    subst (λ (r : RecordView). IsLoad g.C.StableCell g.C.SlotCell c.args.cell.now c.load_held.new.cell (Ok r))
    (sym c.with_images-kept.ensures)
    (loaded g.C.StableCell g.C.SlotCell (λ one t left le might. g.met.C.SlotCell.includes_now_whole one t left le might)
    c.args.cell.now c.load_header.new.cell c.in-Ok.header c.in-Ok.ensures.look c.in-Ok.ensures.read
    c.load_image.new.cell c.in-Ok-load_image.image c.header.inside.slot
    (ap (λ (h : HeaderView). h.slot) c.header.view_is) c.in-Ok-load_image.ensures.look c.in-Ok-load_image.ensures.read
    c.load_held.new.cell c.in-Ok-load_held.held c.in-Ok-load_held.ensures.look c.in-Ok-load_held.ensures.read
    (subst (λ (r : RecordView). is_short (spelled_length r) ≡ true) c.with_images-kept.ensures short))

pub returns-clause-kept : goal.returns-clause-kept
returns-clause-kept g c =
    let S = g.C.SlotCell in
    let short : is_short (spelled_length c.with_images-kept.result) ≡ true = search rules in
    subst (λ (r : RecordView). IsKept g.C.StableCell.is_ready S.whole S.may_leave_whole c.load_held.new.cell
    (Some (known_as r c.header.inside.slot))) (sym c.with_images-kept.ensures)
    (loaded_kept g.C.StableCell S (λ one t left le might. g.met.C.SlotCell.includes_now_whole one t left le might)
    c.args.cell.now c.load_header.new.cell c.in-Ok.header c.in-Ok.ensures.look c.in-Ok.ensures.read
    c.load_image.new.cell c.in-Ok-load_image.image c.header.inside.slot
    (ap (λ (h : HeaderView). h.slot) c.header.view_is) c.in-Ok-load_image.ensures.look c.in-Ok-load_image.ensures.read
    c.load_held.new.cell c.in-Ok-load_held.held c.in-Ok-load_held.ensures.look c.in-Ok-load_held.ensures.read
    (subst (λ (r : RecordView). is_short (spelled_length r) ≡ true) c.with_images-kept.ensures short)
    (λ ready. g.met.C.SlotCell.settled_whole c.args.cell.now ready))
