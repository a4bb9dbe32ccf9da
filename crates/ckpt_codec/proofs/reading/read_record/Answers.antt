use Rattle.std.proofs.Common.{arith}
use Rattle.ckpt_codec.proofs.Exactness.{is_spelled, is_read, is_caused, is_refused}
use Rattle.ckpt_codec.proofs.Versions.{may_be_written}
use Rattle.ckpt_codec.proofs.reading.read_record.Goals as goal

pub returns-clause-found : goal.returns-clause-found
returns-clause-found c =
    is_spelled c.args.bytes.now c.whole_of.result (λ i. omega (arith, c.type_inv.bytes i)) c.whole_of.ensures

pub returns-clause-whole : goal.returns-clause-whole
returns-clause-whole c = may_be_written c.args.bytes.now c.whole_of.result (returns-clause-found c)

pub returns-clause-only : goal.returns-clause-only
returns-clause-only c = λ kept text. is_read c.args.bytes.now c.whole_of.result kept c.whole_of.ensures text

pub returns-clause-cause : goal.returns-clause-cause
returns-clause-cause c =
    is_caused c.args.bytes.now c.whole_of.result (λ i. omega (arith, c.type_inv.bytes i)) c.whole_of.ensures

pub returns-clause-each : goal.returns-clause-each
returns-clause-each c =
    λ fault cause. is_refused c.args.bytes.now c.whole_of.result fault (λ i. omega (arith, c.type_inv.bytes i))
    c.whole_of.ensures cause
