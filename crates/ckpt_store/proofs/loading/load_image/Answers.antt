use Rattle.std.proofs.Common.{◌≡◌, Err, Ok, sym, subst, ap, Some, ◌∙◌, rules}
use Rattle.std.specs.Prelude.{option_copied}
use Rattle.slot_cell.specs.Whole.{slot_in}
use Rattle.ckpt_codec.specs.Common.{ImageView, IsImageText}
use Rattle.ckpt_codec.specs.Faults.{IsImageFault}
use Rattle.ckpt_store.specs.Loading.{IsRead, IsImageOf, IsImageWrong}
use Rattle.ckpt_store.proofs.Loads.{text_found, text_refused, image_read}
use Rattle.std.proofs.Common.{arith}
use Rattle.std.proofs.lemmas.Grind.{elements}
use Rattle.ckpt_store.proofs.loading.load_image.Goals as goal

pub returns-in-Ok-read_image-clause-read : goal.returns-in-Ok-read_image-clause-read
returns-in-Ok-read_image-clause-read g c =
    let like = option_copied c.args.like in
    let found = slot_in c.args.slot (g.C.SlotCell.whole c.args.cell.now) in
    let read = c.in-Ok-read_image.ensures in
    let bytes = c.as_slice.result.now in
    let same : c.args.slot ≡ c.from.result = search rules in
    let there : found ≡ Some bytes =
    ap (λ k. slot_in k (g.C.SlotCell.whole c.args.cell.now)) same
    ∙ (c.in-Ok.ensures.bytes ∙ ap Some (sym c.as_slice.ensures.value)) in
    image_read like found bytes there (Ok c.in-Ok-read_image.image)
    (text_found (λ (i : ImageView) b. IsImageText like i b) (λ b fault. IsImageFault like b fault) found bytes there
    c.in-Ok-read_image.image read.found read.only read.each)

pub returns-clause-read : goal.returns-clause-read
returns-clause-read g c =
    let like = option_copied c.args.like in
    let found = slot_in c.args.slot (g.C.SlotCell.whole c.args.cell.now) in
    let read = c.in-Err-read_image.ensures in
    let bytes = c.as_slice.result.now in
    let same : c.args.slot ≡ c.from.result = search rules in
    let there : found ≡ Some bytes =
    ap (λ k. slot_in k (g.C.SlotCell.whole c.args.cell.now)) same
    ∙ (c.in-Ok.ensures.bytes ∙ ap Some (sym c.as_slice.ensures.value)) in
    subst (λ f. IsRead (IsImageOf like found) (IsImageWrong like found) (Err f)) (sym c.from-in-Err-read_image.ensures)
    (image_read like found bytes there _
    (text_refused (λ (i : ImageView) b. IsImageText like i b) (λ b fault. IsImageFault like b fault) found bytes there
    c.in-Err-read_image.fault read.only read.cause read.each))

pub returns-in-Err-clause-read : goal.returns-in-Err-clause-read
returns-in-Err-clause-read g c = grind (arith, elements)

pub returns-clause-look : goal.returns-clause-look
returns-clause-look g c = grind (arith, elements)

pub returns-in-Err-clause-look : goal.returns-in-Err-clause-look
returns-in-Err-clause-look g c = grind (arith, elements)

pub returns-in-Ok-read_image-clause-look : goal.returns-in-Ok-read_image-clause-look
returns-in-Ok-read_image-clause-look g c = grind (arith, elements)
