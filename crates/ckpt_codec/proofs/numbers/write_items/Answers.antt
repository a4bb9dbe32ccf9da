use Rattle.ckpt_codec.proofs.Bulk.{written_behind}
use Rattle.ckpt_codec.proofs.numbers.write_items.Goals as goal

pub returns : goal.returns
returns c =
    written_behind c.args.bytes.now c.args.start c.args.items.now c.write_i64_into.new.dst c.requires.fit c.requires.room
    c.write_i64_into.ensures
