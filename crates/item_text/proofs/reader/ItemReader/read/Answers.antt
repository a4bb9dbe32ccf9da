use Rattle.std.proofs.Common.{arith}
use Rattle.std.proofs.lemmas.Grind.{common_steps}
use Rattle.item_text.proofs.reader.ItemReader.read.Goals as goal

pub loop-byte-preserved : goal.loop-byte-preserved
loop-byte-preserved c = record {
  rest = grind (arith, common_steps, c.loop-byte.invariant.rest, c.read_byte.ensures.value);
  count = grind (arith, common_steps, c.loop-byte.invariant.count, c.read_byte.ensures.room);
  room = grind (arith, common_steps, c.loop-byte.invariant.room);
}
