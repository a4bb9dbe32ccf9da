use Rattle.ckpt_codec.proofs.Versions.{few_today}
use Rattle.ckpt_codec.proofs.apart.write_header.Goals as goal

pub write_header_in-requires-clause-few : goal.write_header_in-requires-clause-few
write_header_in-requires-clause-few c = few_today c.args.kept.now c.requires.kept
