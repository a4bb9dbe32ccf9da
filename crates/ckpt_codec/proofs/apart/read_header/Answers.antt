use Rattle.std.proofs.Common.{arith}
use Rattle.ckpt_codec.proofs.Headers.{header_spelled, header_read, header_caused, header_refused}
use Rattle.ckpt_codec.proofs.apart.read_header.Goals as goal

pub returns-clause-found : goal.returns-clause-found
returns-clause-found c =
    header_spelled c.args.bytes.now c.whole_header_of.result (λ i. omega (arith, c.type_inv.bytes i))
    c.whole_header_of.ensures

pub returns-clause-only : goal.returns-clause-only
returns-clause-only c =
    λ header text. header_read c.args.bytes.now c.whole_header_of.result header c.whole_header_of.ensures text

pub returns-clause-cause : goal.returns-clause-cause
returns-clause-cause c =
    header_caused c.args.bytes.now c.whole_header_of.result (λ i. omega (arith, c.type_inv.bytes i))
    c.whole_header_of.ensures

pub returns-clause-each : goal.returns-clause-each
returns-clause-each c =
    λ fault cause. header_refused c.args.bytes.now c.whole_header_of.result fault
    (λ i. omega (arith, c.type_inv.bytes i)) c.whole_header_of.ensures cause
