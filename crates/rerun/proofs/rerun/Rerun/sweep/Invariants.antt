use Rattle.std.proofs.Common.{◌≡◌, ◌<◌, ℕ, false}
use Rattle.rerun.specs.Tables.{GoOn, KeepsLimits, can_move}
use Rattle.rerun.specs.Whole.{inputs_in, net_in, table_in}
use Rattle.rerun.proofs.rerun.Rerun.sweep.Given as goal

abbrev pub invariant-loop-process : goal.invariant-loop-process
invariant-loop-process l = record {
  swept : GoOn (net_in l.initial.self) (inputs_in l.initial.self) l.limits l.process (table_in l.initial.self)
      (table_in l.self);
  stood : l.any ≡ false → table_in l.self ≡ table_in l.initial.self;
  rests : l.any ≡ false → (p : ℕ) → p < l.process
      → can_move (net_in l.initial.self) (inputs_in l.initial.self) l.limits (table_in l.initial.self) p ≡ false;
  within : KeepsLimits (net_in l.initial.self) l.limits (table_in l.initial.self) (table_in l.self);
  net : net_in l.self ≡ net_in l.initial.self;
  inputs : inputs_in l.self ≡ inputs_in l.initial.self;
}
