use Rattle.std.proofs.Common.{◌+◌, ap}
use Rattle.record.specs.Common.{with_permanent}
use Rattle.ckpt_codec.proofs.Spelled.{record_short}
use Rattle.ckpt_codec.proofs.Sizes.{length-with}
use Rattle.ckpt_codec.proofs.lengths.spelled_length_once_permanent.Goals as goal

pub length_but_for_decisions_once_permanent-requires : goal.length_but_for_decisions_once_permanent-requires
length_but_for_decisions_once_permanent-requires c = record_short c.args.kept.now c.requires.record

pub returns : goal.returns
returns c =
    length-with (with_permanent c.args.kept.now) c.args.decided
    (c.length_but_for_decisions_once_permanent.result + c.args.decided)
    (ap (λ n. n + c.args.decided) c.length_but_for_decisions_once_permanent.ensures.value)
