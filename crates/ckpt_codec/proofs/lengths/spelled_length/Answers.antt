use Rattle.ckpt_codec.proofs.Spelled.{record_short}
use Rattle.ckpt_codec.proofs.Sizes.{length-spelled}
use Rattle.ckpt_codec.proofs.lengths.spelled_length.Goals as goal

pub length_of_record-requires : goal.length_of_record-requires
length_of_record-requires c = record_short c.args.kept.now c.requires

pub returns : goal.returns
returns c = length-spelled c.args.kept.now c.length_of_record.result c.length_of_record.ensures
