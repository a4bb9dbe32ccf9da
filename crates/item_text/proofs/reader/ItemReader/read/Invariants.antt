use Rattle.std.proofs.Common.{◌≡◌, ◌+◌, ◌*◌, ◌≤◌, drop}
use Rattle.std.specs.Prelude.{vec_len, vec_capacity}
use Rattle.item_text.specs.Items.{reading, read_bytes, pending}
use Rattle.item_text.proofs.reader.ItemReader.read.Given as goal

abbrev pub invariant-loop-byte : goal.invariant-loop-byte
invariant-loop-byte l = record {
  rest : read_bytes (drop l.byte-index l.bytes) (reading l.self l.items.items)
      ≡ read_bytes l.bytes (reading l.initial.self l.initial.items.items);
  count : vec_len l.items * 2 + pending l.self.token ≤ vec_len l.initial.items * 2 + l.byte-index + 1;
  room : vec_capacity l.items ≡ vec_capacity l.initial.items;
}
