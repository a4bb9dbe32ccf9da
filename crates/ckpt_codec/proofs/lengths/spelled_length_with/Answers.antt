use Rattle.std.proofs.Common.{◌+◌, ap}
use Rattle.ckpt_codec.proofs.Spelled.{record_short}
use Rattle.ckpt_codec.proofs.Sizes.{length-with}
use Rattle.ckpt_codec.proofs.lengths.spelled_length_with.Goals as goal

pub length_but_for_the_decisions-requires : goal.length_but_for_the_decisions-requires
length_but_for_the_decisions-requires c = record_short c.args.kept.now c.requires.record

pub returns : goal.returns
returns c =
    let beside = c.length_but_for_the_decisions in
    length-with c.args.kept.now c.args.decided (beside.result + c.args.decided)
    (ap (λ n. n + c.args.decided) beside.ensures.value)
