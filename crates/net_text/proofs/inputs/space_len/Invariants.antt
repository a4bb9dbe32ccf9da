use Rattle.std.proofs.Common.{◌≡◌, true, take}
use Rattle.std.specs.List.{list_all}
use Rattle.net_text.specs.InputLines.{is_space}
use Rattle.net_text.proofs.inputs.space_len.Given as goal

abbrev pub invariant-loop-i : goal.invariant-loop-i
invariant-loop-i l = list_all is_space (take l.i l.bytes) ≡ true
