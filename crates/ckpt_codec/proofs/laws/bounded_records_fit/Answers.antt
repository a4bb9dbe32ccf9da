use Rattle.std.proofs.Common.{ℕ, List, length, ap, arith}
use Rattle.ckpt_codec.specs.SizeLaws.{record_fits}
use Rattle.ckpt_codec.specs.RecordText.{version_of}
use Rattle.ckpt_codec.proofs.Sizes.{length-record}
use Rattle.ckpt_codec.proofs.laws.bounded_records_fit.Goals as goal

pub returns : goal.returns
returns c = λ kept spelling text within. (
    let few = record_fits kept within in
    let long = length-record (version_of spelling) kept in
    let spelled = ap (λ (bytes : List ℕ). length bytes) text.text.spelled in
    omega (arith, few, long, spelled))
