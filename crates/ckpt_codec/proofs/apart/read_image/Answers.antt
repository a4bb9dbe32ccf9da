use Rattle.std.proofs.Common.{arith}
use Rattle.ckpt_codec.proofs.Headers.{image_spelled, image_read, image_caused, image_refused}
use Rattle.ckpt_codec.proofs.apart.read_image.Goals as goal

pub returns-clause-found : goal.returns-clause-found
returns-clause-found c =
    image_spelled _ c.args.bytes.now c.whole_image_of.result (λ i. omega (arith, c.type_inv.bytes i))
    c.whole_image_of.ensures

pub returns-clause-only : goal.returns-clause-only
returns-clause-only c =
    λ image text. image_read _ c.args.bytes.now c.whole_image_of.result image c.whole_image_of.ensures text

pub returns-clause-cause : goal.returns-clause-cause
returns-clause-cause c =
    image_caused _ c.args.bytes.now c.whole_image_of.result (λ i. omega (arith, c.type_inv.bytes i))
    c.whole_image_of.ensures

pub returns-clause-each : goal.returns-clause-each
returns-clause-each c =
    λ fault cause. image_refused _ c.args.bytes.now c.whole_image_of.result fault
    (λ i. omega (arith, c.type_inv.bytes i)) c.whole_image_of.ensures cause
