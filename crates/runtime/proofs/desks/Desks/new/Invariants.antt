use Rattle.std.proofs.Common.{◌≡◌, ◌≤◌}
use Rattle.std.specs.Prelude.{vec_len}
use Rattle.std.specs.Vec.{vec_capacity}
use Rattle.runtime.proofs.desks.Desks.new.Given as goal

-- as many desks as seats were taken, and there is room for all
abbrev pub invariant-loop-number : goal.invariant-loop-number
invariant-loop-number g l = record {
  length : vec_len l.desks ≡ l._number;
  room : l.count ≤ vec_capacity l.desks;
}
