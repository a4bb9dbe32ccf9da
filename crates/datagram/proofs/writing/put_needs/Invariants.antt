use Rattle.std.proofs.Common.{◌≡◌, ◌++◌, take}
use Rattle.std.specs.List.{flat_map}
use Rattle.datagram.specs.PacketText.{need_text}
use Rattle.datagram.proofs.writing.put_needs.Given as goal

abbrev pub invariant-loop-need : goal.invariant-loop-need
invariant-loop-need l = l.out.items ≡ l.fn.out.items ++ flat_map need_text (take l.need-index l.needs)
