use Rattle.std.proofs.Common.{◌≡◌, ◌+◌, ◌-◌, ◌*◌, ◌^◌, ◌<◌, ◌≤◌, ◌++◌, drop, length}
use Rattle.std.specs.Prelude.{vec_len, vec_capacity}
use Rattle.item_bytes.specs.Bytes.{items_of}
use Rattle.item_bytes.specs.Reader.{read_on}
use Rattle.item_bytes.proofs.reader.ByteReader.read.Given as goal

-- what was read, and then what is to come
abbrev pub invariant-loop-byte : goal.invariant-loop-byte
invariant-loop-byte l = record {
  items : l.items.items ++ items_of (l.self.kept ++ drop l.byte-index l.bytes)
      ≡ l.initial.items.items ++ items_of (l.initial.self.kept ++ l.bytes);
  state : read_on l.self (drop l.byte-index l.bytes) ≡ read_on l.initial.self l.bytes;
  count : vec_len l.items * 8 + length l.self.kept ≡ vec_len l.initial.items * 8 + length l.initial.self.kept + l.byte-index;
  few : length l.self.kept < 8;
  counted : l.self.count ≤ 2 ^ 64 - 1;
  room : vec_capacity l.items ≡ vec_capacity l.initial.items;
}
