use Rattle.ckpt_codec.proofs.Headers.{told_is_header, header_alone}
use Rattle.ckpt_codec.proofs.HeaderSizes.{header_is_short}
use Rattle.ckpt_codec.proofs.laws.headers_are_spelled.Goals as goal

pub returns-clause-told : goal.returns-clause-told
returns-clause-told c = told_is_header

pub returns-clause-alone : goal.returns-clause-alone
returns-clause-alone c = header_alone

pub returns-clause-short : goal.returns-clause-short
returns-clause-short c = header_is_short
